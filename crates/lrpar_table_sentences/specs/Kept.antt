-- Lists of what is kept of rules or states, one entry each.
use Rattle.std.specs.Prelude.{◌≡◌, ℕ, Option, None, replicate}
use Rattle.std.specs.declared.vec.Vec.{Vec}

-- there are `count` entries, and nothing is kept in any of them
abbrev pub KeepsNothing : {X A : Type 0} → ℕ → Vec (Option X) A → Type 0
KeepsNothing count = λ kept. kept.items ≡ replicate count None
