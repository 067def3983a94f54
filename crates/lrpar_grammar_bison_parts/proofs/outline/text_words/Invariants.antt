use Rattle.std.proofs.Common.{◌≡◌, map, take}
use Rattle.lrpar_grammar_words.specs.Words.{placed as text_placed}
use Rattle.lrpar_grammar_bison.specs.Words.{placed}
use Rattle.lrpar_grammar_bison_parts.specs.Symbols.{text_word}
use Rattle.lrpar_grammar_bison_parts.proofs.outline.text_words.Given as goal

-- the words so far
abbrev pub invariant-loop-word : goal.invariant-loop-word
invariant-loop-word l = map text_placed l.texts.items ≡ map text_word (map placed (take l.word-index l.words))
