use Rattle.std.proofs.Common.{◌≡◌, map, take}
use Rattle.lrpar_grammar_words.specs.Words.{placed}
use Rattle.lrpar_grammar_reader.specs.Names.{AreNumbers, first_of_each}
use Rattle.lrpar_grammar_reader.proofs.names.Names.first_of_each.Given as goal

-- the words so far are numbered
abbrev pub invariant-loop-word : goal.invariant-loop-word
invariant-loop-word l = record {
  words : map placed l.first.items ≡ first_of_each (take l.word-index (map placed l.words));
  numbers : AreNumbers l.numbers (map placed l.first.items);
}
