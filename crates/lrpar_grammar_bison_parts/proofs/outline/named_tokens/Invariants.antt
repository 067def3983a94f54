use Rattle.std.proofs.Common.{◌≡◌, map, take}
use Rattle.lrpar_grammar_words.specs.Words.{placed as text_placed}
use Rattle.lrpar_grammar_bison_rules.specs.Aliases.{alias_of}
use Rattle.lrpar_grammar_bison_parts.specs.Symbols.{text_word}
use Rattle.lrpar_grammar_bison_parts.proofs.outline.named_tokens.Given as goal

-- the tokens so far
abbrev pub invariant-loop-alias : goal.invariant-loop-alias
invariant-loop-alias l = map text_placed l.tokens.items ≡ map (λ x. text_word x.token) (map alias_of (take l.alias-index l.aliases))
