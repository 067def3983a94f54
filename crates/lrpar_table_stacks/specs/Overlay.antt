-- Overlays: stacks of states over a borrowed list, and their reductions and shifts at a token.
use Rattle.std.specs.Prelude.{◌≡◌, ◌≢◌, ◌≤◌, ◌+◌, ◌-◌, ◌^◌, ◌⊎◌, ℕ, List, [], ◌∷◌, ◌++◌, Bool, true, false, length, min, take}
use Rattle.lrpar_grammar_places.specs.declared.span.StIdx.{StIdx}
use Rattle.lrpar_grammar.specs.Grammar.{Grammar, prod_len}
use Rattle.lrpar_table_rows.specs.Table.{Table, ShiftTo}
use Rattle.lrpar_table_stacks.specs.Reduction.{Feeds, Reduces, ReducesBy, top_action}
use Rattle.lrpar_table_stacks.specs.Settled.{IsSettledBy}
use Rattle.lrpar_table_stacks.specs.Stack.{IsTopOf, Pushes, Replaces, states_of}

-- the number of states of the base that are kept; the states above them, the tail; and the tail's room, a number of states
pub record Overlaid : Type 0 where
  pub base : List ℕ
  pub kept : ℕ
  pub tail : List ℕ
  pub room : ℕ

-- the states that an overlay represents, bottom first
abbrev pub overlaid : Overlaid → List ℕ
overlaid o = take o.kept o.base ++ o.tail

-- an overlay of these states of code, with no states above them, and with no room
abbrev pub laid_on : {S : Type 0} → (S → ℕ) → List (StIdx S) → Overlaid
laid_on index base = record { base = states_of index base; kept = length base; tail = []; room = 0 }

-- the overlay represents these states of code
abbrev pub Represents : {S : Type 0} → (S → ℕ) → Overlaid → List (StIdx S) → Type 0
Represents index o states = overlaid o ≡ states_of index states

-- the state of code is on top of the overlay
abbrev pub IsTopOver : {S : Type 0} → (S → ℕ) → Overlaid → StIdx S → Type 0
IsTopOver index o state = IsTopOf index (overlaid o) state

-- the state of code was pushed onto the overlay
abbrev pub PushesOver : {S : Type 0} → (S → ℕ) → StIdx S → Overlaid → Overlaid → Type 0
PushesOver index state old new = Pushes index state (overlaid old) (overlaid new)

-- this number of states of the overlay was dropped, and the state of code was pushed
abbrev pub ReplacesOver : {S : Type 0} → (S → ℕ) → ℕ → StIdx S → Overlaid → Overlaid → Type 0
ReplacesOver index symbols state old new = Replaces index symbols state (overlaid old) (overlaid new)

-- the number of states that are kept when a stack of this height makes these reductions: the least of the number before, and
-- of the heights that the reductions leave before they push
abbrev pub kept_by : Grammar → List ℕ → ℕ → ℕ → ℕ
kept_by g [] height kept = kept
kept_by g (p ∷ prods) height kept = kept_by g prods (height - prod_len g p + 1) (min kept (height - prod_len g p))

-- by these reductions the overlay keeps its base, and the right number of the base's states, and its room doesn't shrink
pub record KeepsBy (g : Grammar) (prods : List ℕ) (old new : Overlaid) : Type 0 where
  pub base : new.base ≡ old.base
  pub kept : new.kept ≡ kept_by g prods (length (overlaid old)) old.kept
  pub room : old.room ≤ new.room

-- the tail fills its room; or with one more state the number of states would overflow
abbrev pub IsFull : Overlaid → Type 0
IsFull o = (o.room ≤ length o.tail) ⊎ (length (overlaid o) + 1 ≡ 2 ^ 64)

-- at token t the overlay makes all reductions, and `count` is their number
pub record IsSettledOver (g : Grammar) (table : Table) (cap t : ℕ) (old : Overlaid) (count : ℕ) (new : Overlaid) : Type 0 where
  pub states : IsSettledBy g table cap t (overlaid old) count (overlaid new)
  pub keeps : KeepsBy g states.prods old new

-- at token t the overlay makes all reductions, and then shifts the token
pub record FeedsOver (g : Grammar) (table : Table) (t : ℕ) (old new : Overlaid) : Type 0 where
  pub prods : List ℕ
  pub states : Feeds g table t (overlaid old) prods (overlaid new)
  pub keeps : KeepsBy g prods old new

-- at token t the overlay makes all reductions, and then shifts the token; or the top doesn't shift it
abbrev pub IsFedOver : Grammar → Table → ℕ → ℕ → Overlaid → Bool → Overlaid → Type 0
IsFedOver g table cap t old true new = FeedsOver g table t old new
IsFedOver g table cap t old false new =
    ((count : ℕ) × IsSettledOver g table cap t old count new) × ((next : ℕ) → top_action table t (overlaid new) ≢ ShiftTo next)

-- An allocation failed. At token t the overlay makes the first reductions; the next one is due, and would make the tail
-- longer, as it is of no symbols, or the tail is empty; and the tail is then full.
pub record IsShortOfMemoryOver (g : Grammar) (table : Table) (t : ℕ) (old new : Overlaid) : Type 0 where
  pub prods : List ℕ
  pub reduced : ReducesBy g table t (overlaid old) prods (overlaid new)
  pub keeps : KeepsBy g prods old new
  pub prod : ℕ
  pub next : List ℕ
  pub due : Reduces g table t (overlaid new) prod next
  pub longer : (prod_len g prod ≡ 0) ⊎ (new.tail ≡ [])
  pub full : IsFull new

-- An allocation failed. At token t the overlay makes all reductions; the top then shifts the token; and the tail is then
-- full.
pub record IsShiftShortOfMemoryOver (g : Grammar) (table : Table) (cap t : ℕ) (old new : Overlaid) : Type 0 where
  pub count : ℕ
  pub settled : IsSettledOver g table cap t old count new
  pub next : ℕ
  pub due : top_action table t (overlaid new) ≡ ShiftTo next
  pub full : IsFull new

-- a reduction of this number of symbols keeps the base, and those of the base's states that it leaves; the room doesn't shrink
pub record OverlayReduces (old : Overlaid) (symbols : ℕ) (new : Overlaid) : Type 0 where
  pub base : new.base ≡ old.base
  pub kept : new.kept ≡ min old.kept (length (overlaid old) - symbols)
  pub room : old.room ≤ new.room

-- a shift keeps the base and its states; the room doesn't shrink
pub record OverlayShifts (old new : Overlaid) : Type 0 where
  pub base : new.base ≡ old.base
  pub kept : new.kept ≡ old.kept
  pub room : old.room ≤ new.room

-- the states of the base and of the tail stay as they are; the room doesn't shrink, and is full
pub record OverlayStays (old new : Overlaid) : Type 0 where
  pub base : new.base ≡ old.base
  pub kept : new.kept ≡ old.kept
  pub tail : new.tail ≡ old.tail
  pub room : old.room ≤ new.room
  pub full : IsFull new

-- an allocation failed for a reduction of this number of symbols, which would have made the tail longer: the states stay
pub record OverlayFails (old : Overlaid) (symbols : ℕ) (new : Overlaid) : Type 0 where
  pub stays : OverlayStays old new
  pub longer : (symbols ≡ 0) ⊎ (old.tail ≡ [])
