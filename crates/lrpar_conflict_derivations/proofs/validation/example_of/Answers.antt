use Rattle.std.proofs.Common.{◌↔◌, ◌∙◌, IsTrue, subst, sym, inr}
use Rattle.lrpar_table_sentences.specs.Moves.{move_of, moves_in}
use Rattle.lrpar_conflict_derivations.specs.Example.{IsLeastTo}
use Rattle.lrpar_conflict_derivations.specs.Stored.{IsExampleAfter}
use Rattle.lrpar_conflict_derivations.specs.Texts.{tokens_in}
use Rattle.lrpar_conflict_derivations.proofs.ExampleLemmas.{example_done, least_by}
use Rattle.lrpar_conflict_derivations.proofs.validation.example_of.Goals as goal

pub returns-clause-example : goal.returns-clause-example
returns-clause-example g c =
    let index = g.StorageT.StorageIndex.index in
    let grm = c.args.grm.now in
    let conflict = c.args.conflict.now in
    let t = index conflict.token.0 in
    let front = moves_in index c.args.front.now in
    let short = moves_in index c.args.short.now in
    let one = rw c.in-Some.is at c.in_ok-first.ensures in
    let other = rw c.in-Some-2.is at c.in_ok-second.ensures in
    let made = c.in_ok-example.ensures in
    let example = c.in_ok-example.example in
    let flag = c.in_ok-shortest.shortest in
    let is : IsExampleAfter index grm conflict c.args.front.now c.args.short.now example = λ graph s steps short_steps lead least.
    example_done grm graph s t steps front (moves_in index c.in-Some.first.items) (moves_in index c.in-Some-2.second.items) (move_of index conflict.one)
    (move_of index conflict.other) example c.requires lead (one steps) (other steps) flag c.args.bound made
    (subst (λ is. IsTrue is ↔ IsLeastTo grm graph s (tokens_in front)) (sym made.shortest)
    (least_by grm graph s steps short_steps front short flag lead least c.in_ok-shortest.ensures))
    (inr (sym c.is_ambiguous.ensures ∙ c.if-not-is_ambiguous.false)) in (is, made.bound)
