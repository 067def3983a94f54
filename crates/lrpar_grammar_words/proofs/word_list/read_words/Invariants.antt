use Rattle.std.proofs.Common.{◌-◌, ◌≤◌, length, map}
use Rattle.lrpar_grammar_words.specs.Words.{placed}
use Rattle.lrpar_grammar_words.proofs.OutlineLemmas.{ReadsTo}
use Rattle.lrpar_grammar_words.proofs.word_list.read_words.Given as goal

-- the text is read up to the place
abbrev pub invariant-loop-place : goal.invariant-loop-place
invariant-loop-place l = record {
  within : l.place ≤ length l.text;
  read : ReadsTo l.text l.place (map placed l.words.items);
}

abbrev pub decreases-loop-place : goal.decreases-loop-place
decreases-loop-place l = length l.text - l.place
