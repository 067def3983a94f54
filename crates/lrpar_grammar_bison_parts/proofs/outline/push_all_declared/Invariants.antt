use Rattle.std.proofs.Common.{◌≡◌, ◌++◌, List, map, take}
use Rattle.std.specs.List.{flat_map}
use Rattle.lrpar_grammar_words.specs.Words.{placed as text_placed}
use Rattle.lrpar_grammar_bison_rules.specs.Aliases.{FileAlias, MapsAliases}
use Rattle.lrpar_grammar_bison_rules.specs.Rules.{alternative_of}
use Rattle.lrpar_grammar_bison_parts.specs.Outline.{declared_in}
use Rattle.lrpar_grammar_bison_parts.specs.Symbols.{symbol_word}
use Rattle.lrpar_grammar_bison_parts.proofs.outline.push_all_declared.Given as goal

-- the words of the alternatives so far are appended
abbrev pub invariant-loop-alternative : goal.invariant-loop-alternative
invariant-loop-alternative l = (aliases : List FileAlias) → MapsAliases l.aliases aliases
    → map text_placed l.words.items ≡ map text_placed l.initial.words.items ++ map (symbol_word aliases) (flat_map declared_in (map alternative_of (take l.alternative-index l.alternatives)))
