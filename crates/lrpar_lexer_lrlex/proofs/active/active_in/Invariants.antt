use Rattle.std.proofs.Common.{◌≡◌, ◌++◌, ◌-◌, drop, length, map}
use Rattle.lrpar_lexer_lrlex.specs.StateRules.{active_from, plain_starts}
use Rattle.lrpar_lexer_lrlex.proofs.active.active_in.Given as goal

-- the rules that are left add to the active ones so far what is missing
abbrev pub invariant-starts : goal.invariant-starts
invariant-starts l =
    l.active.items ++ active_from l.index l.exclusive l.state (drop l.index (map plain_starts l.starts))
    ≡ active_from 0 l.exclusive l.state (map plain_starts l.starts)

abbrev pub decreases-starts : goal.decreases-starts
decreases-starts l = length l.starts - l.index
