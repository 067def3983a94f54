use Rattle.std.proofs.Common.{◌≡◌, map, take}
use Rattle.lrpar_grammar_words.specs.Words.{placed as text_placed}
use Rattle.lrpar_grammar_bison_rules.specs.Aliases.{alias_of}
use Rattle.lrpar_grammar_bison_parts.specs.Outline.{text_of}
use Rattle.lrpar_grammar_bison_parts.proofs.outline.texts_of.Given as goal

-- the texts so far
abbrev pub invariant-loop-token : goal.invariant-loop-token
invariant-loop-token l = map text_placed l.texts.items ≡ map (text_of (map alias_of l.fn.aliases)) (take l.token-index (map text_placed l.tokens))
