use Rattle.std.proofs.Common.{◌≡◌, ◌++◌, map, take}
use Rattle.lrpar_grammar_words.specs.Words.{placed}
use Rattle.lrpar_grammar_words.specs.Outline.{alternative_of}
use Rattle.lrpar_grammar_reader.specs.Spells.{used_tokens}
use Rattle.lrpar_grammar_reader.proofs.tables.token_words.Given as goal

-- the tokens of the alternatives so far come after the declared ones
abbrev pub invariant-loop-alternative : goal.invariant-loop-alternative
invariant-loop-alternative l =
    map placed l.words.items ≡ map placed l.outline.declared.items ++ used_tokens l.declared (take l.alternative-index (map alternative_of l.outline.alternatives.items))
