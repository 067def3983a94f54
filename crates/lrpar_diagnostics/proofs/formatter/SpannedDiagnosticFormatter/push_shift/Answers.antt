use Rattle.std.specs.String.{string_bytes}
use Rattle.lrpar_diagnostics.proofs.TextLemmas.{four_pieces}
use Rattle.lrpar_diagnostics.proofs.formatter.SpannedDiagnosticFormatter.push_shift.Goals as goal

pub returns : goal.returns
returns g c =
    four_pieces c.push.result (string_bytes c.args.out.now) (string_bytes c.push_shift_reduce_line.new.out) (string_bytes c.push_token.new.out) (string_bytes c.push_rule.new.out)
    (string_bytes c.push_symbols.new.out) (string_bytes c.push.new.self) _ _ _ _
    c.in_ok-push_shift_reduce_line.ensures c.in_ok-push_token.ensures c.in_ok-push_rule.ensures c.in_ok-push_symbols.ensures c.push.ensures.bytes
