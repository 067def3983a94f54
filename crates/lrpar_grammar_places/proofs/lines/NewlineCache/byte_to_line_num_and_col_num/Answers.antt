use Rattle.std.proofs.Common.{◌≡◌, ap, ◌∙◌, rules, arith}
use Rattle.std.specs.Str.{IsCharBoundary}
use Rattle.lrpar_grammar_places.specs.Lines.{chars_before, line_start}
use Rattle.lrpar_grammar_places.proofs.ColumnLemmas.{column_counted}
use Rattle.lrpar_grammar_places.proofs.lines.NewlineCache.byte_to_line_num_and_col_num.Goals as goal

pub returns-clause-column : goal.returns-clause-column
returns-clause-column c =
    let text = c.args.src.now in
    let before_line : c.chars_before-before_line.result ≡ chars_before text (line_start text c.args.byte) =
    c.chars_before-before_line.ensures ∙ ap (chars_before text) (c.line_start.ensures.start text c.requires) in
    let cut : IsCharBoundary text c.args.byte = search rules in
    omega (arith, c.chars_before.ensures, before_line, column_counted text c.args.byte c.utf8.src cut)
