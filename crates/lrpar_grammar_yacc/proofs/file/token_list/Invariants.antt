use Rattle.std.proofs.Common.{◌≡◌, map, take}
use Rattle.lrpar_grammar_yacc.proofs.file.token_list.Given as goal

-- the names of the tokens so far
abbrev pub invariant-loop-name : goal.invariant-loop-name
invariant-loop-name g l = map (λ x. x.now) l.names.items ≡ map (λ pair. pair.0.now) (take l.name-index l.name-items)
