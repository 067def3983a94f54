-- Lists without elements.
use Rattle.std.proofs.Common.{◌≡◌, refl, arith, List, [], ◌∷◌}
use Rattle.std.specs.List.{Contains}

-- a list without elements is empty
pub empty_list : {X : Type 0} (xs : List X) → ((x : X) → Contains xs x → ⊥) → xs ≡ []
empty_list [] none = refl
empty_list (x ∷ xs) none = absurd (none x (0, omega arith, refl))
