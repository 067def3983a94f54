use Rattle.std.proofs.Common.{length}
use Rattle.std.specs.String.{string_bytes}
use Rattle.lrpar_table_rows.specs.ConflictsFit.{ReductionsFit}
use Rattle.lrpar_table_rows.specs.PlainConflicts.{reduce_reduce_of}
use Rattle.lrpar_diagnostics.specs.ConflictText.{reduce_reduce_text}
use Rattle.lrpar_diagnostics.proofs.TextLemmas.{AreWritten}
use Rattle.lrpar_diagnostics.proofs.formatter.SpannedDiagnosticFormatter.push_reduce_reduce.Given as goal

abbrev pub invariant-loop-conflict : goal.invariant-loop-conflict
invariant-loop-conflict g l =
    AreWritten (ReductionsFit l.grm) (reduce_reduce_text l.self l.grm) (reduce_reduce_of g.StorageT.StorageIndex.index) l.fn.conflicts l.rest (string_bytes l.fn.out) (string_bytes l.out)

abbrev pub decreases-loop-conflict : goal.decreases-loop-conflict
decreases-loop-conflict g l = length l.rest
