use denote.Shadow.{shadow}
use denote.Text.{Utf8}
use Rattle.std.proofs.Common.{◌≡◌, ◌++◌, length}
use Rattle.std.specs.String.{string_bytes}
use Rattle.lrpar_parse_errors.specs.SequenceText.{on_one_line}
use Rattle.lrpar_parse_errors.proofs.sequence_text.push_on_one_line.Given as goal

-- with what is left, the text so far is the whole
abbrev pub invariant-loop-line : goal.invariant-loop-line
invariant-loop-line l = record {
  utf8 : shadow (Utf8 l.rest);
  whole : string_bytes l.out ++ on_one_line l.rest ≡ string_bytes l.initial.out ++ on_one_line l.fn.text;
}

abbrev pub decreases-loop-line : goal.decreases-loop-line
decreases-loop-line l = length l.rest
