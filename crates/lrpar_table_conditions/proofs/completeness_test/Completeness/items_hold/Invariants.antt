use Rattle.lrpar_table_conditions.specs.Itemwise.{ItemHolds}
use Rattle.lrpar_table_conditions.proofs.ItemwiseLemmas.{EachOfFirst}
use Rattle.lrpar_table_conditions.proofs.completeness_test.Completeness.items_hold.Given as goal

-- the condition holds for the items of the cores so far
abbrev pub invariant-loop-pidx : goal.invariant-loop-pidx
invariant-loop-pidx g l =
    let index = g.StorageT.StorageIndex.index in
    EachOfFirst index l.self.sgraph.now (index l.s.0) (ItemHolds l.self.grm.now l.self.sgraph.now l.self.stable.now l.condition (index l.s.0)) l.pidx-items l.pidx-index
