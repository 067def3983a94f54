use Rattle.std.proofs.lemmas.Str.{IsUtf8-had}
use Rattle.lrpar_report_columns.proofs.lines.Lines.bounds.Goals as goal

pub returns-clause-boundaries : goal.returns-clause-boundaries
returns-clause-boundaries c =
    let text = c.self.inside.text.now in
    rw (← c.self.view_is) (c.span_line_bytes.ensures.boundaries text c.self.invariant.table (IsUtf8-had text c.self.invariant.utf8))
