use Rattle.std.proofs.Common.{◌++◌, ap, sym, ◌∙◌, append_assoc}
use Rattle.std.specs.Prelude.{encode_utf8}
use Rattle.std.specs.String.{string_bytes}
use Rattle.lrpar_report_columns.specs.Columns.{repeated}
use Rattle.lrpar_report_columns.proofs.ColumnLemmas.{repeated_more}
use Rattle.lrpar_report_columns.proofs.lines.push_repeated.Goals as goal

pub loop-i-preserved : goal.loop-i-preserved
loop-i-preserved c =
    c.in_ok-push.ensures.bytes ∙ ap (λ o. o ++ encode_utf8 c.args.c) c.loop-i.invariant
    ∙ append_assoc (string_bytes c.args.out.now) (repeated c.loop-i._i c.args.c) (encode_utf8 c.args.c)
    ∙ ap (λ t. string_bytes c.args.out.now ++ t) (sym (repeated_more c.loop-i._i c.args.c))
