use Rattle.std.proofs.Common.{take}
use Rattle.lrpar_lexer.specs.Marks.{AddsMarks}
use Rattle.lrpar_lexer.proofs.marks.mark_rules.Given as goal

-- the rules so far are marked
abbrev pub invariant-rules : goal.invariant-rules
invariant-rules l = AddsMarks (take l.rule-index l.rules) l.fn.marks.items l.marks.items
