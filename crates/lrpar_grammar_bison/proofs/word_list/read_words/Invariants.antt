use Rattle.std.proofs.Common.{◌≡◌, ◌-◌, ◌≤◌, length, drop, map}
use Rattle.lrpar_grammar_bison.specs.Words.{placed}
use Rattle.lrpar_grammar_bison.specs.WordList.{read, read_from, with_words}
use Rattle.lrpar_grammar_bison.proofs.word_list.read_words.Given as goal

-- the text is read up to the place
abbrev pub invariant-loop-place : goal.invariant-loop-place
invariant-loop-place l = record {
  within : l.place ≤ length l.text;
  few : l.sections ≤ 2;
  read : with_words (map placed l.words.items) (read_from l.place l.sections 0 (drop l.place l.text)) ≡ read l.text;
}

abbrev pub decreases-loop-place : goal.decreases-loop-place
decreases-loop-place l = length l.text - l.place
