use Rattle.std.proofs.Common.{All, take}
use Rattle.lrpar_table_rows.specs.Table.{actions_at}
use Rattle.lrpar_table_conditions.specs.Entrywise.{IsInRange}
use Rattle.lrpar_table_conditions.proofs.checkable.Checkable.reduces_of_are_in_range.Given as goal

-- the reductions so far are by productions
abbrev pub invariant-loop-place : goal.invariant-loop-place
invariant-loop-place g l =
    All (λ e. IsInRange l.self.grm.now e.1) (take l.place (actions_at l.self.stable.now (g.StorageT.StorageIndex.index l.fn.s.0)))
