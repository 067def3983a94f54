use Rattle.lrpar_table_rows.proofs.CutLemmas.{AreCutSoFar}
use Rattle.lrpar_table_rows.proofs.entries.Entries.from_rows.Given as goal

abbrev pub invariant-loop-row : goal.invariant-loop-row
invariant-loop-row g l = AreCutSoFar (λ row. row.items) l.starts.items l.keys.items l.values.items l.rows l.row-index
