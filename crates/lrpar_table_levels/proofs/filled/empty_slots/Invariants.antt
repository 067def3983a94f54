use Rattle.std.proofs.Common.{◌≡◌, ℕ, None, length}
use Rattle.lrpar_table_precedence.specs.Precedence.{slot_at}
use Rattle.lrpar_table_levels.proofs.filled.empty_slots.Given as goal

-- there are so many slots, all empty
abbrev pub invariant-loop : goal.invariant-loop
invariant-loop l =
    (length l.slots.items ≡ l.counter) × ((n : ℕ) → slot_at l.slots.items n ≡ None)
