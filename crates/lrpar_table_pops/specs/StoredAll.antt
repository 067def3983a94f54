-- The exits that are stored, when nothing is left out.
use Rattle.std.specs.Prelude.{◌≡◌, ◌≢◌, ◌<◌, ℕ, Bool, IsTrue, List, [], Option, Some, None, length, slice_get, slice_index_or, false}
use Rattle.lrpar_grammar_places.specs.declared.span.StIdx.{StIdx}
use Rattle.lrpar_grammar_places.specs.declared.span.TIdx.{TIdx}
use Rattle.lrpar_grammar.specs.Grammar.{Grammar}
use Rattle.lrpar_table_rows.specs.Graph.{Graph, graph_len}
use Rattle.lrpar_table_rows.specs.Table.{FailsPastStates, FailsPastTokens, HasNoGotoPastRules, IsClosed, ShiftTo, Table, action_of, goto_of, states_len}
use Rattle.lrpar_table_pops.specs.Closed.{IsClosedAt, IsGotoState, IsKeptBy, StartsIn}
use Rattle.std.specs.Bool.{OnFalse}
use Rattle.lrpar_table_rows.specs.Safe.{IsSafe}
use Rattle.lrpar_table_pops.specs.declared.found.Found.{Found}
use Rattle.lrpar_table_pops.specs.FoundAll.{AreExitsFor, HasRoomFor}
use Rattle.lrpar_table_pops.specs.Growth.{GrowsBy, HaveRoomFor, SomeHasLookahead}
use Rattle.lrpar_table_pops.specs.Pops.{Control}
use Rattle.lrpar_table_pops.specs.StoredPops.{any_of, at_of}
use Rattle.lrpar_table_pops.specs.declared.exits.Exit.{Exit}
use Rattle.lrpar_table_pops.specs.declared.pops.StateExits.{StateExits}

-- the exits of state s at the lookahead, or at any
abbrev pub stored_of : List StateExits → ℕ → Option ℕ → List Exit
stored_of states s (Some t) = at_of states s t
stored_of states s None = any_of states s

-- no exit was added
abbrev pub AreSameStored : List StateExits → List StateExits → Type 0
AreSameStored old new = (s : ℕ) (at : Option ℕ) → stored_of new s at ≡ stored_of old s at

-- exits were added to those of state s alone
abbrev pub AddsToState : ℕ → List StateExits → List StateExits → Type 0
AddsToState s old new = (u : ℕ) (at : Option ℕ) → u ≢ s → stored_of new u at ≡ stored_of old u at

-- each of these exits, for which there is room, is one of state s at the lookahead, or at any; others are kept, with their ways and their room
pub record StoresAll (s : ℕ) (at : Option ℕ) (exits : List Exit) (old new : List StateExits) : Type 0 where
  pub grows : (u : ℕ) (other : Option ℕ) → GrowsBy (λ w t. (u ≡ s) × (other ≡ at) × SomeHasLookahead exits w t) (stored_of old u other) (stored_of new u other)
  pub alone : AddsToState s old new

-- the exits of state s are kept at the lookahead, if gotos lead to s; those at any always are
abbrev pub AreKept : Grammar → Table → ℕ → Option ℕ → Type 0
AreKept g table s (Some t) = IsGotoState table s × IsKeptBy g (action_of table s t)
AreKept g table s None = Unit {0}

-- there is room for all exits that are kept
abbrev pub HaveAllWays : Grammar → Graph → Table → List StateExits → Type 0
HaveAllWays g graph table states = (s : ℕ) (at : Option ℕ) → s < graph_len graph → AreKept g table s at → AreExitsFor g graph s (stored_of states s at)

-- if the exits of state s are kept at the lookahead, or at any, what follows from other states is among them
abbrev pub IsClosedIf : Grammar → Graph → Table → List StateExits → ℕ → Option ℕ → Type 0
IsClosedIf g graph table states s at = AreKept g table s at → IsClosedAt g graph table states s at (stored_of states s at)

-- what follows for state s from other states is stored
abbrev pub IsClosedState : Grammar → Graph → Table → List StateExits → ℕ → Type 0
IsClosedState g graph table states s = (at : Option ℕ) → IsClosedIf g graph table states s at

-- state s acts at some token, and leads to the control in one step
abbrev pub StartsFrom : Grammar → Table → List StateExits → ℕ → Control → Type 0
StartsFrom g table states s q = (t : ℕ) × StartsIn g states t (action_of table s t) q

-- the state acts at one of the first tokens, and leads to the control in one step
abbrev pub StartsSoFar : {S : Type 0} → (S → ℕ) → Grammar → Table → List StateExits → ℕ → List (TIdx S) → ℕ → Control → Type 0
StartsSoFar {S} index g table states s tokens place q =
    (i : ℕ) × (token : TIdx S) × (i < place) × (slice_get tokens i ≡ Some token) × StartsIn g states (index token.0) (action_of table s (index token.0)) q

-- the place is marked
abbrev pub IsMarked : List Bool → ℕ → Type 0
IsMarked marks place = IsTrue (slice_index_or marks place false)

-- neither state s is marked, nor one that a shift or a goto leads to from it
pub record IsUntouched (table : Table) (marks : List Bool) (s : ℕ) : Type 0 where
  pub itself : ¬ (IsMarked marks s)
  pub shifts : (t next : ℕ) → action_of table s t ≡ ShiftTo next → ¬ (IsMarked marks next)
  pub gotos : (r next : ℕ) → goto_of table s r ≡ Some next → ¬ (IsMarked marks next)

-- each state is closed, unless it is marked, or one is that a shift or a goto leads to from it
abbrev pub AreClosedUnlessMarked : Grammar → Graph → Table → List StateExits → List Bool → Type 0
AreClosedUnlessMarked g graph table states marks = (s : ℕ) → s < states_len table → IsUntouched table marks s → IsClosedState g graph table states s

-- no place is marked
abbrev pub HasNoMarks : List Bool → Type 0
HasNoMarks marks = (place : ℕ) → ¬ (IsMarked marks place)

-- the marks are kept
abbrev pub KeepsMarks : List Bool → List Bool → Type 0
KeepsMarks old new = (place : ℕ) → IsMarked old place → IsMarked new place

-- the table is safe, shifts and gotos lead to its states, and it acts at tokens and goes by rules of its grammar alone
pub record IsSoundTable (g : Grammar) (graph : Graph) (table : Table) : Type 0 where
  pub safe : IsSafe g graph table
  pub closed : IsClosed table
  pub states : FailsPastStates table
  pub tokens : FailsPastTokens table
  pub rules : HasNoGotoPastRules table

-- what is found of state s was added to what is stored for it; if the result is false, nothing was new, and the fact holds
pub record Saturates (g : Grammar) (graph : Graph) (table : Table) (s : ℕ) (result : Bool) (fact : Type 0) (old new : List StateExits) : Type 0 where
  pub ways : HaveAllWays g graph table new
  pub alone : AddsToState s old new
  pub same : OnFalse result (AreSameStored old new)
  pub closed : OnFalse result fact

-- what is found of state s is added to what is stored for it, if there is room for all of it; and there is room afterwards
abbrev pub SaturatesIf : Grammar → Graph → Table → ℕ → Bool → Type 0 → List StateExits → List StateExits → Found → Found → Type 0
SaturatesIf g graph table s result closed old new before after =
    IsSoundTable g graph table → s < states_len table → HasRoomFor g graph s before → HaveAllWays g graph table old
    → Saturates g graph table s result closed old new × HasRoomFor g graph s after

-- there is room in the sets of what is found
abbrev pub HaveSets : Grammar → Found → Type 0
HaveSets g found = HaveRoomFor g found.reduced.items × HaveRoomFor g found.followed.items

-- what is found of state s is added to what is stored for it, if there is room in the sets of what is found; and there is room afterwards
abbrev pub SaturatesState : Grammar → Graph → Table → ℕ → Bool → Type 0 → List StateExits → List StateExits → Found → Found → Type 0
SaturatesState g graph table s result closed old new before after =
    IsSoundTable g graph table → s < states_len table → HaveSets g before → HaveAllWays g graph table old
    → Saturates g graph table s result closed old new × HaveSets g after

-- what follows for each state was added, round after round
pub record SaturatesRound (g : Grammar) (graph : Graph) (table : Table) (grown : Bool) (new : List StateExits) (changed : List Bool) (after : Found) : Type 0 where
  pub ways : HaveAllWays g graph table new
  pub closed : AreClosedUnlessMarked g graph table new changed
  pub marks : OnFalse grown (HasNoMarks changed)
  pub sets : HaveSets g after

-- there is room for the exits of state s; and for those at the tokens at which they are kept, if gotos lead to it
pub record HaveWaysAt (g : Grammar) (graph : Graph) (table : Table) (s : ℕ) (is_goto : Bool) (exits : StateExits) : Type 0 where
  pub any : AreExitsFor g graph s exits.any
  pub at : IsTrue is_goto → (t : ℕ) → IsKeptBy g (action_of table s t) → AreExitsFor g graph s (slice_index_or exits.at.items t [])

-- the first of these states are marked, if they have a place
abbrev pub AreMarked : {S : Type 0} → (S → ℕ) → List (StIdx S) → ℕ → List Bool → Type 0
AreMarked {S} index states count marks =
    (i : ℕ) (state : StIdx S) → i < count → slice_get states i ≡ Some state → index state.0 < length marks → IsMarked marks (index state.0)
