use Rattle.lrpar_table_rows.proofs.CutLemmas.{AreAppended}
use Rattle.lrpar_table_rows.proofs.entries.push_row.Given as goal

abbrev pub invariant-loop-key : goal.invariant-loop-key
invariant-loop-key g l = AreAppended l.keys.items l.initial.keys.items l.values.items l.initial.values.items l.row l.key-index
