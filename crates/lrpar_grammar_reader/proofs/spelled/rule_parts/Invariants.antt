use Rattle.std.proofs.Common.{◌≡◌, map, take}
use Rattle.lrpar_grammar_words.specs.Words.{placed}
use Rattle.lrpar_grammar_reader.specs.Parts.{rule_name_of}
use Rattle.lrpar_grammar_reader.specs.Spells.{rule_of_word}
use Rattle.lrpar_grammar_reader.proofs.spelled.rule_parts.Given as goal

-- the rules so far
abbrev pub invariant-loop-word : goal.invariant-loop-word
invariant-loop-word l = map rule_name_of l.parts.items ≡ map rule_of_word (take l.word-index (map placed l.words))
