use Rattle.lrpar_table_conditions.proofs.ItemwiseLemmas.{asked_at, decided_as}
use Rattle.lrpar_table_conditions.proofs.completeness_test.Completeness.is_complete_at.Goals as goal

pub returns-in_default-clause-test : goal.returns-in_default-clause-test
returns-in_default-clause-test g c =
    decided_as c.items_hold.result c.items_hold.ensures
    (asked_at c.args.self.now.grm.now c.args.self.now.sgraph.now c.args.self.now.stable.now c.args.condition (g.StorageT.StorageIndex.index c.args.s.0)
    c.in_default.not-C1 c.in_default.not-C2)

pub returns-in-C2-clause-test : goal.returns-in-C2-clause-test
returns-in-C2-clause-test g c = rw c.in-C2.is c.closes_items.ensures.test
