use Rattle.std.proofs.Common.{◌≡◌, None, replicate}
use Rattle.lrpar_names.specs.Names.{slots_of}
use Rattle.lrpar_names.proofs.names.empty_slots.Given as goal

-- so many slots are there, and all are empty
abbrev pub invariant-slots : goal.invariant-slots
invariant-slots l = slots_of l.slots.items ≡ replicate l.counter None
