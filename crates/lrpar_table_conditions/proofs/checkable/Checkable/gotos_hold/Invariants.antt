use Rattle.std.proofs.Common.{All, take}
use Rattle.lrpar_table_rows.specs.Table.{gotos_at}
use Rattle.lrpar_table_conditions.specs.Entrywise.{GotoHolds}
use Rattle.lrpar_table_conditions.proofs.checkable.Checkable.gotos_hold.Given as goal

-- the condition holds of the entries so far
abbrev pub invariant-loop-place : goal.invariant-loop-place
invariant-loop-place g l =
    let s = g.StorageT.StorageIndex.index l.s.0 in
    All (λ e. GotoHolds l.self.grm.now l.self.sgraph.now l.self.stable.now l.condition s e.0 e.1) (take l.place (gotos_at l.self.stable.now s))
