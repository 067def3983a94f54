-- The ways from a configuration to ends: what is left of the repairs of least cost that pass it.
use Rattle.std.specs.Prelude.{◌≡◌, ◌||◌, ℕ, Bool, true, false, List, [], ◌∷◌, slice_index_or}
use Rattle.lrpar_parse_repair.specs.Asked.{Asked}
use Rattle.lrpar_parse_repair.specs.Sequences.{PlainStep, PlainInsert, PlainDelete, PlainShift}
use Rattle.lrpar_parse_cpctplus.specs.LinkPaths.{IsLinkPath, IsEnd}
use Rattle.lrpar_parse_cpctplus.specs.Configurations.{Configured}

-- whether the step is a Delete
abbrev pub is_delete : PlainStep → Bool
is_delete (PlainInsert t) = false
is_delete PlainDelete = true
is_delete PlainShift = false

-- the step may be the next one: it is no Insert, if the step before it is a Delete
abbrev pub FitsAfter : Bool → PlainStep → Type 0
FitsAfter deleted (PlainInsert t) = deleted ≡ false
FitsAfter deleted PlainDelete = Unit {0}
FitsAfter deleted PlainShift = Unit {0}

-- each of the steps may come after the one before it
abbrev pub FitAfter : Bool → List PlainStep → Type 0
FitAfter deleted [] = Unit {0}
FitAfter deleted (step ∷ steps) = FitsAfter deleted step × FitAfter (is_delete step) steps

-- a way from v to an end at c, after a Delete or another step
pub record IsWay {X : Type 0} (token : X → ℕ) (costs : List ℕ) (at : Asked X) (c : ℕ) (deleted : Bool) (v : Configured) (steps : List PlainStep) : Type 0 where
  pub fits : FitAfter deleted steps
  pub end : Configured
  pub ends : IsEnd token costs at c end
  pub chain : IsLinkPath token costs at c v steps end

-- whether the step inserts a token that is to be avoided
abbrev pub is_avoided : List Bool → PlainStep → Bool
is_avoided avoided (PlainInsert t) = slice_index_or avoided t false
is_avoided avoided PlainDelete = false
is_avoided avoided PlainShift = false

-- whether one of the steps inserts a token that is to be avoided
abbrev pub has_avoided : List Bool → List PlainStep → Bool
has_avoided avoided [] = false
has_avoided avoided (step ∷ steps) = is_avoided avoided step || has_avoided avoided steps
