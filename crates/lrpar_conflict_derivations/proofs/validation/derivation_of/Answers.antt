use Rattle.std.proofs.Common.{subst}
use Rattle.lrpar_table_sentences.specs.Moves.{move_of, moves_in}
use Rattle.lrpar_conflict_derivations.specs.Replay.{AreOfTree}
use Rattle.lrpar_conflict_derivations.proofs.ValidationLemmas.{validated_derives}
use Rattle.lrpar_conflict_derivations.proofs.validation.derivation_of.Goals as goal

pub returns : goal.returns
returns g c =
    let index = g.StorageT.StorageIndex.index in
    let grm = c.args.grm.now in
    let all = moves_in index c.in_ok-all.all.items in
    let tree = subst (λ xs. AreOfTree grm (moves_in index xs)) c.deref.ensures.value (c.in_ok-are_of_tree.ensures c.if-not-branch.false) in
    λ steps.
    validated_derives grm steps (index c.args.token.0) (moves_in index c.args.front.now) _ all (move_of index c.args.next) c.in_ok-all.ensures
    (c.begins_by.ensures c.if-not-begins_by.false) (c.shifts_first.ensures c.if-not-shifts_first.false) tree
