use Rattle.std.proofs.Common.{subst, true}
use Rattle.std.proofs.lemmas.Result.{IfOk-weaker}
use Rattle.lrpar_table_sentences.specs.Moves.{moves_in}
use Rattle.lrpar_table_sentences.specs.AccessStrings.{steps_of}
use Rattle.lrpar_conflict_derivations.specs.Conflict.{IsExampleOf, conflict_of}
use Rattle.lrpar_conflict_derivations.specs.Example.{IsMadeOf}
use Rattle.lrpar_conflict_derivations.proofs.ExampleLemmas.{plain_done}
use Rattle.lrpar_conflict_derivations.proofs.examples.Examples.plain.Goals as goal

pub returns-clause-example : goal.returns-clause-example
returns-clause-example g c =
    let index = g.StorageT.StorageIndex.index in
    let grm = c.args.grm.now in
    let conflict = conflict_of index c.args.conflict.now in
    let front = c.args.front.now in
    let first = moves_in index c.in_ok-first.first.items in
    let second = moves_in index c.in_ok-second.second.items in
    IfOk-weaker c.new.result _ (IsExampleOf grm c.args.sgraph.now conflict)
    (λ x made.
    plain_done grm c.args.sgraph.now conflict (steps_of index front.steps.items) (moves_in index front.moves.items) first second c.args.bound x
    c.requires.conflict.apart c.requires.front c.in_ok-first.ensures c.in_ok-second.ensures
    (subst (λ xs. IsMadeOf (moves_in index xs) first second true c.args.bound x) c.deref.ensures.value made))
    c.new.ensures
