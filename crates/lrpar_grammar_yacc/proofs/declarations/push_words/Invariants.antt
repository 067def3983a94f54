use Rattle.std.proofs.Common.{◌≡◌, ◌≤◌, ◌-◌, ◌++◌, drop, length, map}
use Rattle.lrpar_grammar_words.specs.Words.{placed}
use Rattle.lrpar_grammar_yacc.specs.Declares.{names_of, words_from}
use Rattle.lrpar_grammar_yacc.proofs.declarations.push_words.Given as goal

-- the words so far, and those that come, are all words of the part
abbrev pub invariant-loop-place : goal.invariant-loop-place
invariant-loop-place l = record {
  within : l.place ≤ length l.text;
  words : map placed l.words.items ++ words_from l.place (l.part.end - l.place) 0 (drop l.place l.text) ≡ map placed l.initial.words.items ++ names_of l.text l.part;
}

abbrev pub decreases-loop-place : goal.decreases-loop-place
decreases-loop-place l = length l.text - l.place
