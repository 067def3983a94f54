use Rattle.std.proofs.Common.{◌≡◌, ◌++◌, List, map, take}
use Rattle.lrpar_grammar_words.specs.Words.{placed as text_placed}
use Rattle.lrpar_grammar_bison_rules.specs.Aliases.{FileAlias, MapsAliases}
use Rattle.lrpar_grammar_bison_rules.specs.Rules.{rank_of}
use Rattle.lrpar_grammar_bison_parts.specs.Symbols.{symbol_word}
use Rattle.lrpar_grammar_bison_parts.proofs.outline.push_ranked.Given as goal

-- the words so far are appended
abbrev pub invariant-loop-entry : goal.invariant-loop-entry
invariant-loop-entry l = (aliases : List FileAlias) → MapsAliases l.aliases aliases
    → map text_placed l.words.items ≡ map text_placed l.initial.words.items ++ map (symbol_word aliases) (map (λ x. x.word) (map rank_of (take l.entry-index l.ranked)))
