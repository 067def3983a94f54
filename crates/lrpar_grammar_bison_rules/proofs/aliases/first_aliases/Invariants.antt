use Rattle.std.proofs.Common.{◌≡◌, drop, map}
use Rattle.lrpar_grammar_bison_rules.specs.Aliases.{MapsAliases, alias_of, first_aliases, turned, with_aliases}
use Rattle.lrpar_grammar_bison_rules.proofs.aliases.first_aliases.Given as goal

-- the texts that are left come after those so far, which the maps have
abbrev pub invariant-loop-alias : goal.invariant-loop-alias
invariant-loop-alias l = record {
  first : first_aliases (map alias_of l.aliases) ≡ with_aliases (map alias_of l.first.items) (map alias_of (drop l.alias-index l.aliases));
  tokens : MapsAliases l.tokens (map alias_of l.first.items);
  texts : MapsAliases l.texts (map turned (map alias_of l.first.items));
}
