use Rattle.std.proofs.Common.{◌≡◌, ◌++◌, map, take}
use Rattle.std.specs.List.{filter}
use Rattle.lrpar_grammar_words.specs.Words.{placed}
use Rattle.lrpar_grammar_reader.specs.Spells.{is_token}
use Rattle.lrpar_grammar_reader.proofs.tables.push_tokens.Given as goal

-- the tokens so far come after the others
abbrev pub invariant-loop-word : goal.invariant-loop-word
invariant-loop-word l = map placed l.words.items ≡ map placed l.fn.words.items ++ filter (is_token l.declared) (take l.word-index (map placed l.symbols))
