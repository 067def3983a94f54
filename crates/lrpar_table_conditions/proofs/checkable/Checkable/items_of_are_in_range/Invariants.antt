use Rattle.std.proofs.Common.{◌<◌, ℕ, get_or}
use Rattle.lrpar_table_rows.specs.Graph.{HasItem}
use Rattle.lrpar_table_rows.specs.Safe.{IsItem}
use Rattle.lrpar_table_conditions.proofs.checkable.Checkable.items_of_are_in_range.Given as goal

-- the items of the cores so far are of the grammar
abbrev pub invariant-loop-pidx : goal.invariant-loop-pidx
invariant-loop-pidx g l =
    let index = g.StorageT.StorageIndex.index in
    (n : ℕ) (d : _) → n < l.pidx-index → (t : ℕ)
    → HasItem l.self.sgraph.now (index l.s.0) (index (get_or l.pidx-items n d).0.0) (get_or l.pidx-items n d).1 t
    → IsItem l.self.grm.now (index (get_or l.pidx-items n d).0.0) (get_or l.pidx-items n d).1 t
