-- The form of repair sequences, as lrpar prints them.
use Rattle.std.specs.Prelude.{◌≡◌, ◌<◌, ℕ, List, [], ◌∷◌, ◌++◌}
use Rattle.lrpar_parse_repair.specs.Sequences.{PlainStep, PlainInsert, PlainDelete, PlainShift}

-- the sequence has these steps, one right after the other
abbrev pub Has : List PlainStep → List PlainStep → Type 0
Has steps part = (before after : List PlainStep) × (steps ≡ before ++ part ++ after)

-- these are its last steps
abbrev pub EndsIn : List PlainStep → List PlainStep → Type 0
EndsIn steps part = (before : List PlainStep) × (steps ≡ before ++ part)

-- well formed: it inserts only tokens below the end token, and none right after a Delete
pub record IsFormed (end : ℕ) (steps : List PlainStep) : Type 0 where
  pub inserts : (t : ℕ) → Has steps (PlainInsert t ∷ []) → t < end
  pub apart : (t : ℕ) → ¬ (Has steps (PlainDelete ∷ PlainInsert t ∷ []))

-- well formed, and the last step is no Shift
pub record IsPrinted (end : ℕ) (steps : List PlainStep) : Type 0 where
  pub formed : IsFormed end steps
  pub last : ¬ (EndsIn steps (PlainShift ∷ []))
