-- The order of sequences by their steps.
use Rattle.std.specs.Prelude.{◌≡◌, ◌<◌, List, ◌∷◌, ◌++◌}
use Rattle.lrpar_parse_repair.specs.Sequences.{PlainStep, PlainInsert, PlainDelete, PlainShift}

-- one step comes before another: an Insert before a Delete, that before a Shift, and Inserts by their tokens, ascending
abbrev pub IsStepBefore : PlainStep → PlainStep → Type 0
IsStepBefore (PlainInsert t) (PlainInsert u) = t < u
IsStepBefore (PlainInsert t) PlainDelete = Unit {0}
IsStepBefore (PlainInsert t) PlainShift = Unit {0}
IsStepBefore PlainDelete PlainShift = Unit {0}
IsStepBefore _ _ = ⊥

-- one sequence comes before another, by the first steps that differ
pub record IsEarlier (xs ys : List PlainStep) : Type 0 where
  pub same : List PlainStep
  pub x : PlainStep
  pub y : PlainStep
  pub after_x : List PlainStep
  pub after_y : List PlainStep
  pub left : xs ≡ same ++ x ∷ after_x
  pub right : ys ≡ same ++ y ∷ after_y
  pub before : IsStepBefore x y
