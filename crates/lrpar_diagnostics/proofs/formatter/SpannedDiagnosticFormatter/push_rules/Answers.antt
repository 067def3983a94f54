use Rattle.std.specs.String.{string_bytes}
use Rattle.lrpar_diagnostics.proofs.TextLemmas.{four_pieces}
use Rattle.lrpar_diagnostics.proofs.formatter.SpannedDiagnosticFormatter.push_rules.Goals as goal

pub returns : goal.returns
returns g c =
    four_pieces c.push.result (string_bytes c.args.out.now) (string_bytes c.push_reduce_reduce_line.new.out) (string_bytes c.push_rule.new.out) (string_bytes c.push_rule-2.new.out)
    (string_bytes c.push_lookahead.new.out) (string_bytes c.push.new.self) _ _ _ _
    c.in_ok-push_reduce_reduce_line.ensures c.in_ok-push_rule.ensures c.in_ok-push_rule-2.ensures c.in_ok-push_lookahead.ensures c.push.ensures.bytes
