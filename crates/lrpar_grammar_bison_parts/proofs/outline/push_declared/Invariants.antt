use Rattle.std.proofs.Common.{◌≡◌, ◌++◌, List, map, take}
use Rattle.lrpar_grammar_words.specs.Words.{placed as text_placed}
use Rattle.lrpar_grammar_bison_rules.specs.Aliases.{FileAlias, MapsAliases}
use Rattle.lrpar_grammar_bison_rules.specs.Rules.{item_of}
use Rattle.lrpar_grammar_bison_parts.specs.Outline.{declared_among}
use Rattle.lrpar_grammar_bison_parts.specs.Symbols.{symbol_word}
use Rattle.lrpar_grammar_bison_parts.proofs.outline.push_declared.Given as goal

-- the words of the parts so far are appended
abbrev pub invariant-loop-item : goal.invariant-loop-item
invariant-loop-item l = (aliases : List FileAlias) → MapsAliases l.aliases aliases
    → map text_placed l.words.items ≡ map text_placed l.initial.words.items ++ map (symbol_word aliases) (declared_among (map item_of (take l.item-index l.items)))
