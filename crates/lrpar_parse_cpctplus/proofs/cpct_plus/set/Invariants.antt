use Rattle.std.proofs.Common.{◌≡◌, ◌+◌, ◌-◌, ℕ, false, get_or}
use Rattle.lrpar_parse_cpctplus.proofs.cpct_plus.set.Given as goal

-- the list says the same as before
abbrev pub invariant-longer : goal.invariant-longer
invariant-longer l = (t : ℕ) → get_or l.list.items t false ≡ get_or l.fn.list.items t false

-- it gets longer up to the number
abbrev pub decreases-longer : goal.decreases-longer
decreases-longer l = l.number + 1 - l.list.len
