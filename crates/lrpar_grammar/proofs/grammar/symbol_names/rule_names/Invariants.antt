use Rattle.std.proofs.Common.{◌≡◌, map, take}
use Rattle.lrpar_grammar.proofs.grammar.symbol_names.rule_names.Given as goal

-- the names of the rules so far
abbrev pub invariant-loop-number : goal.invariant-loop-number
invariant-loop-number g l = map (λ x. x.now) l.names.items ≡ map (λ rule. rule.name) (take l.number l.grm.rules)
