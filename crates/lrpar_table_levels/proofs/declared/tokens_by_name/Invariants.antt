use Rattle.std.proofs.Common.{◌≡◌, map, take}
use Rattle.lrpar_table_levels.specs.ByName.{precedence_in}
use Rattle.lrpar_table_levels.proofs.declared.tokens_by_name.Given as goal

-- the tokens so far
abbrev pub invariant-loop-name : goal.invariant-loop-name
invariant-loop-name g l = l.tokens.items ≡ map (precedence_in l.names) (map (λ pair. pair.0.now) (take l.name-index l.name-items))
