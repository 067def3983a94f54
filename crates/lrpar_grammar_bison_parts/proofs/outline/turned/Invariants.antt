use Rattle.std.proofs.Common.{◌≡◌, map, take}
use Rattle.lrpar_grammar_bison_rules.specs.Aliases.{alias_of, turned}
use Rattle.lrpar_grammar_bison_parts.proofs.outline.turned.Given as goal

-- the aliases so far
abbrev pub invariant-loop-alias : goal.invariant-loop-alias
invariant-loop-alias l = map alias_of l.others.items ≡ map turned (map alias_of (take l.alias-index l.aliases))
