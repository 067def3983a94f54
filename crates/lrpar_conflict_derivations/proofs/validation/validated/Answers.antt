use Rattle.std.proofs.Common.{subst, sym}
use Rattle.std.proofs.lemmas.Option.{IfSome_then}
use Rattle.std.proofs.lemmas.Result.{IfOk-weaker}
use Rattle.lrpar_table_sentences.specs.Moves.{moves_in}
use Rattle.lrpar_table_sentences.specs.AccessStrings.{steps_of}
use Rattle.lrpar_conflict_derivations.specs.Example.{IsFront, IsShortestFront}
use Rattle.lrpar_conflict_derivations.specs.Stored.{FindsExampleOf}
use Rattle.lrpar_conflict_derivations.proofs.validation.validated.Goals as goal

pub returns-in-Some-clause-example : goal.returns-in-Some-clause-example
returns-in-Some-clause-example g c =
    let index = g.StorageT.StorageIndex.index in
    let grm = c.args.context.now.grm.now in
    let graph = c.args.context.now.graph.now in
    let s = index c.args.conflict.now.state.0 in
    let steps = steps_of index c.deref.result.now in
    let short_steps = steps_of index c.args.front.now.steps.items in
    let found = rw c.in-Some.is at c.in_ok-path_moves.ensures in
    let lead = subst (λ xs. IsFront grm graph s steps (moves_in index xs)) (sym c.deref-in-Some.ensures.value) found in
    let least = subst (λ xs. IsShortestFront grm graph s short_steps (moves_in index xs)) (sym c.deref-in-Some-2.ensures.value) c.requires.front in
    IfOk-weaker c.example_of.result _ (FindsExampleOf index grm graph c.args.conflict.now c.args.bound)
    (λ found some. IfSome_then found some (λ x is. (is.0 graph s steps short_steps lead least, is.1))) c.example_of.ensures.example
