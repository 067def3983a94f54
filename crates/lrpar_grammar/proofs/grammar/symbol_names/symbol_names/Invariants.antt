use Rattle.std.proofs.Common.{◌≡◌, ◌++◌, map, take}
use Rattle.lrpar_grammar.proofs.grammar.symbol_names.symbol_names.Given as goal

-- the names of the rules, and those of the tokens so far
abbrev pub invariant-loop-name : goal.invariant-loop-name
invariant-loop-name g l =
    map (λ x. x.now) l.names.items ≡ map (λ rule. rule.name) l.grm.rules ++ map (λ pair. pair.0.now) (take l.name-index l.name-items)
