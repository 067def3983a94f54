use Rattle.std.proofs.Common.{◌≡◌, map, take}
use Rattle.lrpar_lexer_lrlex.specs.States.{plain_names}
use Rattle.lrpar_lexer_lrlex.proofs.reading.exclusive_of.Given as goal

-- the states so far are listed
abbrev pub invariant-states : goal.invariant-states
invariant-states l = l.exclusive.items ≡ map (λ s. s.exclusive) (plain_names (take l.state-index l.states))
