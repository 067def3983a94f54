-- Reductions and shifts of a stack of any kind, which may have more than its states, and how many reductions there are. The function
-- `states` gives its states. The relation `reduces` says what a reduction does to the rest, by a production, of a rule, with this number
-- of symbols; and `shifts` says what a shift does to it.
use Rattle.std.specs.Prelude.{◌≡◌, ◌≤◌, ◌+◌, ◌*◌, ℕ, zero, suc, List, [], ◌∷◌, ◌++◌, length}
use Rattle.lrpar_grammar.specs.Grammar.{Grammar}
use Rattle.lrpar_table_rows.specs.Table.{Table, ShiftTo}
use Rattle.lrpar_table_stacks.specs.Overlay.{OverlayReduces, OverlayShifts, Overlaid, overlaid}
use Rattle.lrpar_table_stacks.specs.Reduction.{top_action}
use Rattle.lrpar_table_stacks.specs.StackReduction.{StackReduces}

-- the top shifts token t to a state, which is pushed; and `shifts` holds of the rest
pub record StackShifts {X : Type 0} (states : X → List ℕ) (shifts : X → X → Type 0) (table : Table) (t : ℕ) (old new : X) : Type 0 where
  pub next : ℕ
  pub does : top_action table t (states old) ≡ ShiftTo next
  pub pushed : states new ≡ states old ++ next ∷ []
  pub of_rest : shifts old new

-- reductions and shifts, each at some token, make one stack of another; `count` of them are reductions
pub data IsMovedBy {X : Type 0} (states : X → List ℕ) (reduces : X → ℕ → ℕ → ℕ → X → Type 0) (shifts : X → X → Type 0) (g : Grammar) (table : Table) : ℕ → X → X → Type 0 where
  -- none is made
  stays : (x : X) → IsMovedBy states reduces shifts g table zero x x
  -- a reduction is made, and then the others
  reduced_first : (count : ℕ) (x y z : X) (t p : ℕ) → StackReduces states reduces g table t x p y → IsMovedBy states reduces shifts g table count y z
      → IsMovedBy states reduces shifts g table (suc count) x z
  -- a shift is made, and then the others
  shifted_first : (count : ℕ) (x y z : X) (t : ℕ) → StackShifts states shifts table t x y → IsMovedBy states reduces shifts g table count y z
      → IsMovedBy states reduces shifts g table count x z

-- Reductions and shifts make one stack of another. There are at most as many reductions as this number of tokens may cost: `cap` for each
-- state that is lost, and cap · (cap + 3) for each token.
pub record IsMovedWithin {X : Type 0} (states : X → List ℕ) (reduces : X → ℕ → ℕ → ℕ → X → Type 0) (shifts : X → X → Type 0) (g : Grammar) (table : Table) (cap tokens : ℕ) (old new : X) : Type 0 where
  pub count : ℕ
  pub moved : IsMovedBy states reduces shifts g table count old new
  pub cost : count + cap * length (states new) ≤ cap * (length (states old) + tokens * (cap + 3))

-- an overlay that is set back to the states of its base
abbrev pub at_base : Overlaid → Overlaid
at_base o = record { base = o.base; kept = length o.base; tail = []; room = o.room }

-- Tests of sequences make one overlay of another, with this number of reductions. For each of them the overlay is set back, and then
-- reductions and shifts are made.
pub data AreTests (g : Grammar) (table : Table) : ℕ → Overlaid → Overlaid → Type 0 where
  -- there is none
  no_test : (o : Overlaid) → AreTests g table zero o o
  -- after some there is one more
  one_more_test : (before here : ℕ) (old mid new : Overlaid) → AreTests g table before old mid
      → IsMovedBy overlaid (λ x p r n y. OverlayReduces x n y) OverlayShifts g table here (at_base mid) new → AreTests g table (before + here) old new

-- tests of sequences make one overlay of another, with at most this number of reductions
pub record AreTestsWithin (g : Grammar) (table : Table) (most : ℕ) (old new : Overlaid) : Type 0 where
  pub count : ℕ
  pub tests : AreTests g table count old new
  pub cost : count ≤ most
