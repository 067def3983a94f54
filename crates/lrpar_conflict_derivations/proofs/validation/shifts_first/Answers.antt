use Rattle.std.proofs.Common.{◌∙◌, ℕ, sym, ap}
use Rattle.std.proofs.lemmas.Bool.{eqb-true}
use Rattle.lrpar_table_sentences.specs.Moves.{Takes, move_of}
use Rattle.lrpar_conflict_derivations.proofs.ValidationLemmas.{first_token, no_token}
use Rattle.lrpar_conflict_derivations.proofs.validation.shifts_first.Goals as goal

pub returns-in-Take : goal.returns-in-Take
returns-in-Take g c =
    let index = g.StorageT.StorageIndex.index in
    λ is.
    first_token index c.args.moves.now c.loop-step.step-index c.step-item.result (index c.args.token.0) c.loop-step-test.true c.step-item.is c.loop-step.invariant
    (ap (move_of index) c.in-Take.is
    ∙ ap (λ (n : ℕ). Takes n) (sym c.from.ensures ∙ eqb-true c.from.result c.from-in-Take.result is ∙ c.from-in-Take.ensures))

pub loop-step-preserved : goal.loop-step-preserved
loop-step-preserved g c =
    let index = g.StorageT.StorageIndex.index in
    no_token index c.args.moves.now c.loop-step.step-index c.step-item.result _ c.loop-step-test.true c.step-item.is c.loop-step.invariant
    (ap (move_of index) c.in-Make.is)
