use Rattle.std.specs.String.{string_bytes}
use Rattle.lrpar_diagnostics.proofs.TextLemmas.{written_more}
use Rattle.lrpar_diagnostics.proofs.formatter.SpannedDiagnosticFormatter.push_reduce_reduce.Goals as goal

pub loop-conflict-preserved : goal.loop-conflict-preserved
loop-conflict-preserved g c =
    written_more _ _ _ _ _ _ _ _ _ (string_bytes c.push_reductions.new.out) c.in-Some.ensures.cases.0 c.in_ok-push_reductions.ensures c.loop-conflict.invariant
