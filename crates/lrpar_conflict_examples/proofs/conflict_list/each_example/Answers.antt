use Rattle.std.proofs.Common.{sym, ap, subst}
use Rattle.std.proofs.lemmas.List.{take_all}
use Rattle.lrpar_conflict_examples.specs.Conflicts.{AreExamplesOf, ConflictExampleOf, IsExampleOf, table_conflicts, unmet_in, unmet_of}
use Rattle.lrpar_conflict_examples.proofs.ListedLemmas.{examples_more, examples_none, is_member}
use Rattle.lrpar_conflict_examples.proofs.conflict_list.each_example.Goals as goal

pub loop-conflict-init : goal.loop-conflict-init
loop-conflict-init g c =
    examples_none c.args.grm.now c.args.sgraph.now c.args.bound (unmet_of g.StorageT.StorageIndex.index) c.args.conflicts.now c.new-examples.result.items
    c.new-examples.ensures.items

pub example_of-requires-clause-listed : goal.example_of-requires-clause-listed
example_of-requires-clause-listed g c =
    is_member (unmet_of g.StorageT.StorageIndex.index) c.args.conflicts.now (table_conflicts c.args.stable.now) c.loop-conflict.conflict-index c.conflict-item.result
    c.loop-conflict-test.true c.conflict-item.is c.requires.listed

pub loop-conflict-preserved : goal.loop-conflict-preserved
loop-conflict-preserved g c =
    let own = c.new.ensures in
    examples_more c.args.grm.now c.args.sgraph.now c.args.bound (unmet_of g.StorageT.StorageIndex.index) c.args.conflicts.now c.loop-conflict.conflict-index
    c.conflict-item.result c.loop-conflict.examples.items c.push.new.self.items c.new.result c.loop-conflict-test.true c.conflict-item.is
    c.loop-conflict.invariant c.in_ok-push.ensures.items (ap (λ (e : ConflictExampleOf). e.conflict) own)
    (subst (IsExampleOf c.args.grm.now c.args.sgraph.now c.args.bound) (sym own) c.in_ok-example.ensures)

pub returns : goal.returns
returns g c =
    subst (λ xs. AreExamplesOf c.args.grm.now c.args.sgraph.now c.args.bound (unmet_in g.StorageT.StorageIndex.index xs) c.loop-conflict.examples.items)
    (take_all c.loop-conflict.conflict-index c.args.conflicts.now c.loop-conflict-test.false) c.loop-conflict.invariant
