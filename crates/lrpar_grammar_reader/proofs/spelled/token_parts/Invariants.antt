use Rattle.std.proofs.Common.{◌≡◌, map, take}
use Rattle.lrpar_grammar_words.specs.Words.{placed}
use Rattle.lrpar_grammar_words.specs.Outline.{outline_of}
use Rattle.lrpar_grammar_reader.specs.Parts.{token_name_of}
use Rattle.lrpar_grammar_reader.specs.Spells.{token_of_word}
use Rattle.lrpar_grammar_reader.proofs.spelled.token_parts.Given as goal

-- the tokens so far
abbrev pub invariant-loop-word : goal.invariant-loop-word
invariant-loop-word l = map token_name_of l.parts.items ≡ map (token_of_word (outline_of l.outline)) (take l.word-index (map placed l.words))
