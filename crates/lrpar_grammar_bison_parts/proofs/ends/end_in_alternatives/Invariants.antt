use Rattle.std.proofs.Common.{◌≡◌, List, drop, map}
use Rattle.lrpar_grammar_bison_rules.specs.Aliases.{FileAlias, MapsAliases}
use Rattle.lrpar_grammar_bison_rules.specs.Rules.{alternative_of}
use Rattle.lrpar_grammar_bison_parts.specs.Ends.{end_in_alternatives}
use Rattle.lrpar_grammar_bison_parts.proofs.ends.end_in_alternatives.Given as goal

-- no alternative so far has the token
abbrev pub invariant-loop-alternative : goal.invariant-loop-alternative
invariant-loop-alternative l = (aliases : List FileAlias) → MapsAliases l.aliases aliases
    → end_in_alternatives aliases l.end (map alternative_of l.alternatives) ≡ end_in_alternatives aliases l.end (map alternative_of (drop l.alternative-index l.alternatives))
