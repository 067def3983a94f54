use Rattle.std.proofs.Common.{length}
use Rattle.std.specs.String.{string_bytes}
use Rattle.lrpar_table_rows.specs.ConflictsFit.{ShiftFits}
use Rattle.lrpar_table_rows.specs.PlainConflicts.{shift_reduce_of}
use Rattle.lrpar_diagnostics.specs.ConflictText.{shift_reduce_text}
use Rattle.lrpar_diagnostics.proofs.TextLemmas.{AreWritten}
use Rattle.lrpar_diagnostics.proofs.formatter.SpannedDiagnosticFormatter.push_shift_reduce.Given as goal

abbrev pub invariant-loop-conflict : goal.invariant-loop-conflict
invariant-loop-conflict g l =
    AreWritten (ShiftFits l.grm) (shift_reduce_text l.self l.grm) (shift_reduce_of g.StorageT.StorageIndex.index) l.fn.conflicts l.rest (string_bytes l.fn.out) (string_bytes l.out)

abbrev pub decreases-loop-conflict : goal.decreases-loop-conflict
decreases-loop-conflict g l = length l.rest
