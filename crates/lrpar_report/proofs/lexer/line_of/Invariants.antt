use Rattle.std.proofs.Common.{◌≡◌, ◌<◌, ◌≤◌, ◌+◌}
use Rattle.lrpar_grammar_places.specs.Lines.{line_of}
use Rattle.lrpar_report.proofs.lexer.line_of.Given as goal

-- the line of the byte, its start and its number, which isn't past the one that is looked for
abbrev pub invariant-bytes : goal.invariant-bytes
invariant-bytes l = record {
  line : l.line ≡ line_of l.byte-items l.at;
  start : line_of l.byte-items l.start ≡ l.line;
  within : l.start ≤ l.at;
  bound : l.line ≤ l.at + 1;
  before : 0 < l.fn.number → l.line ≤ l.fn.number;
}
