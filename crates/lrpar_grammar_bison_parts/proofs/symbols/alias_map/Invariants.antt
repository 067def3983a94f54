use Rattle.std.proofs.Common.{map, take}
use Rattle.lrpar_grammar_bison_rules.specs.Aliases.{MapsAliases, alias_of}
use Rattle.lrpar_grammar_bison_parts.proofs.symbols.alias_map.Given as goal

-- the map has the texts so far
abbrev pub invariant-loop-alias : goal.invariant-loop-alias
invariant-loop-alias l = MapsAliases l.tokens (map alias_of (take l.alias-index l.aliases))
