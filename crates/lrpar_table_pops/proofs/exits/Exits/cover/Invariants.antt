use Rattle.std.proofs.Common.{take}
use Rattle.lrpar_table_pops.specs.Exits.{HaveAllExits}
use Rattle.lrpar_table_pops.proofs.exits.Exits.cover.Given as goal

-- the exits before the place are covered
abbrev pub invariant-loop-place : goal.invariant-loop-place
invariant-loop-place l = HaveAllExits l.self (take l.place l.others)
