-- The repair at a place of a list, step by step; and the furthest of some places.
use Rattle.std.specs.Prelude.{◌≡◌, ◌<◌, ◌≤◌, ◌+◌, ℕ, List, ◌∷◌, Option, Some, None, IfSome, length, slice_index_or}
use Rattle.std.specs.List.{All, Contains}
use Rattle.lrpar_parse_repair.specs.PlainSteps.{plain_step}
use Rattle.lrpar_parse_repair.specs.Sequences.{PlainStep}
use Rattle.lrpar_parse_cpctplus.specs.declared.form.Form.{Form}
use Rattle.lrpar_parse_cpctplus.specs.declared.listing.Choice.{Choice}

-- the sequence at this index of `all` begins with the step, and goes on as the rest from a node at the index that the choice gives
pub record IsChoice {S : Type 0} (index : S → ℕ) (rests : Form → ℕ → List (List PlainStep)) (all : List (List PlainStep)) (place : ℕ) (choice : Choice S) : Type 0 where
  pub within : choice.place < length (rests choice.form choice.node)
  pub no_more : choice.place ≤ place
  pub is : (d : List PlainStep) → slice_index_or all place d ≡ plain_step index choice.step ∷ slice_index_or (rests choice.form choice.node) choice.place d

-- the number is below the bound, if there is a bound
abbrev pub IsBelow : ℕ → Option ℕ → Type 0
IsBelow reach None = Unit {0}
IsBelow reach (Some bound) = reach < bound

-- the number above a place, or 0 without one
abbrev pub above : Option ℕ → ℕ
above None = 0
above (Some reach) = reach + 1

-- the furthest of the places below the bound
pub record IsFurthestBelow (reaches : List ℕ) (bound found : Option ℕ) : Type 0 where
  pub some : IfSome found (λ far. Contains reaches far × IsBelow far bound)
  pub none : All (λ reach. IsBelow reach bound → reach < above found) reaches
