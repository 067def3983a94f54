use Rattle.std.proofs.Common.{◌++◌, sym}
use Rattle.std.specs.String.{string_bytes}
use Rattle.lrpar_diagnostics.specs.Underline.{first_mark, marks_after}
use Rattle.lrpar_diagnostics.proofs.TextLemmas.{closed, grown}
use Rattle.lrpar_diagnostics.proofs.source.Source.push_on_line.Goals as goal

pub returns : goal.returns
returns c =
    let src = c.args.self.now.lines in
    let first = c.in-Some.first.now in
    let head = first_mark src c.args.underline_c first in
    let tail = marks_after src c.args.underline_c first.end c.in-Some.others.now in
    rw c.in-Some.ensures.cases.0 (closed c.push_str.result (string_bytes c.args.out.now) (string_bytes c.push_marks.new.out) (string_bytes c.push.new.self) (string_bytes c.push_str.new.self)
    (head ++ tail) c.args.message.now
    (grown (string_bytes c.args.out.now) (string_bytes c.push_first.new.out) (string_bytes c.push_marks.new.out) head tail c.in_ok-push_first.ensures (rw (sym c.end.ensures.end) c.in_ok-push_marks.ensures))
    c.in_ok-push.ensures.bytes c.push_str.ensures.bytes)
