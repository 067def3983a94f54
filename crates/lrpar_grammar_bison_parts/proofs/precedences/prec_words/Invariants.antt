use Rattle.std.proofs.Common.{◌≡◌, map, option_map, take, List}
use Rattle.lrpar_grammar_words.specs.Words.{placed as text_placed}
use Rattle.lrpar_grammar_bison_rules.specs.Aliases.{FileAlias, MapsAliases}
use Rattle.lrpar_grammar_bison_rules.specs.Rules.{alternative_of}
use Rattle.lrpar_grammar_bison_parts.specs.Precedences.{prec_words}
use Rattle.lrpar_grammar_bison_parts.proofs.precedences.prec_words.Given as goal

-- the symbols of the alternatives so far
abbrev pub invariant-loop-alternative : goal.invariant-loop-alternative
invariant-loop-alternative l =
    (aliases : List FileAlias) → MapsAliases l.aliases aliases
    → map (option_map text_placed) l.words.items ≡ prec_words aliases (map alternative_of (take l.alternative-index l.alternatives))
