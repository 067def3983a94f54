use Rattle.std.proofs.Common.{◌-◌, ◌≤◌, length}
use Rattle.lrpar_grammar_words.specs.Outline.{outline_of}
use Rattle.lrpar_grammar_words.proofs.OutlineLemmas.{OutlinesTo}
use Rattle.lrpar_grammar_words.proofs.outline.Outline.read.Given as goal

-- the text is read up to the place
abbrev pub invariant-loop-place : goal.invariant-loop-place
invariant-loop-place l = record {
  within : l.place ≤ length l.text;
  read : OutlinesTo l.text l.place l.expected (outline_of l.outline);
}

abbrev pub decreases-loop-place : goal.decreases-loop-place
decreases-loop-place l = length l.text - l.place
