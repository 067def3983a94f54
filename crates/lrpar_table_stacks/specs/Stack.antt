-- Stacks of states, bottom first.
use Rattle.std.specs.Prelude.{◌≡◌, ◌<◌, ◌≤◌, ◌-◌, ◌⊎◌, ℕ, All, List, [], ◌∷◌, ◌++◌, length, map, slice_get, take, Option, Some, Vec, vec_capacity}
use Rattle.lrpar_grammar_places.specs.declared.span.StIdx.{StIdx}
use Rattle.lrpar_table_rows.specs.Table.{Table, ShiftTo, action_of, goto_of, states_len}

-- a shift leads from state s to state next
abbrev pub HasShiftTo : Table → ℕ → ℕ → Type 0
HasShiftTo table s next = (t : ℕ) × (t < table.tokens) × (action_of table s t ≡ ShiftTo next)

-- a goto leads from state s to state next
abbrev pub HasGotoTo : Table → ℕ → ℕ → Type 0
HasGotoTo table s next = (r : ℕ) × (r < table.rules) × (goto_of table s r ≡ Some next)

-- a shift or a goto leads from state s to state next
abbrev pub IsJoined : Table → ℕ → ℕ → Type 0
IsJoined table s next = HasShiftTo table s next ⊎ HasGotoTo table s next

-- a shift or a goto leads from state s to the first of the states above it, and from each of those to the next
abbrev pub AreJoined : Table → ℕ → List ℕ → Type 0
AreJoined table s [] = Unit {0}
AreJoined table s (next ∷ st) = IsJoined table s next × AreJoined table next st

-- a stack of the table: the start state is at the bottom, and a shift or a goto leads from each state to the next
abbrev pub IsStack : Table → List ℕ → Type 0
IsStack table [] = ⊥
IsStack table (s ∷ st) = (s ≡ table.start) × AreJoined table s st

-- the top of a stack
abbrev pub top_of : List ℕ → Option ℕ
top_of st = slice_get st (length st - 1)

-- the numbers of these states
abbrev pub states_of : {S : Type 0} → (S → ℕ) → List (StIdx S) → List ℕ
states_of index states = map (λ x. index x.0) states

-- each of the states is one of the table
abbrev pub AreStatesOf : Table → List ℕ → Type 0
AreStatesOf table st = All (λ s. s < states_len table) st

-- a list of states of the table, which isn't empty
pub record AreSomeStatesOf (table : Table) (st : List ℕ) : Type 0 where
  pub some : 0 < length st
  pub within : AreStatesOf table st

-- the state of code is on top of the stack
abbrev pub IsTopOf : {S : Type 0} → (S → ℕ) → List ℕ → StIdx S → Type 0
IsTopOf index st state = top_of st ≡ Some (index state.0)

-- the state of code is at this height
abbrev pub IsStateAt : {S : Type 0} → (S → ℕ) → List ℕ → ℕ → StIdx S → Type 0
IsStateAt index st at state = slice_get st at ≡ Some (index state.0)

-- the state of code was pushed
abbrev pub Pushes : {S : Type 0} → (S → ℕ) → StIdx S → List ℕ → List ℕ → Type 0
Pushes index state old new = new ≡ old ++ index state.0 ∷ []

-- this number of states was dropped, and the state of code was pushed
abbrev pub Replaces : {S : Type 0} → (S → ℕ) → ℕ → StIdx S → List ℕ → List ℕ → Type 0
Replaces index symbols state old new = new ≡ take (length old - symbols) old ++ index state.0 ∷ []

-- the state was pushed onto a list of code
abbrev pub PushesState : {S Z : Type 0} → (S → ℕ) → StIdx S → Vec (StIdx S) Z → Vec (StIdx S) Z → Type 0
PushesState index state old new = Pushes index state (states_of index old.items) (states_of index new.items)

-- this number of states of a list of code was dropped, and the state was pushed
abbrev pub ReplacesStates : {S Z : Type 0} → (S → ℕ) → ℕ → StIdx S → Vec (StIdx S) Z → Vec (StIdx S) Z → Type 0
ReplacesStates index symbols state old new = Replaces index symbols state (states_of index old.items) (states_of index new.items)

-- the list has the states that it had
abbrev pub KeepsStates : {S Z : Type 0} → (S → ℕ) → Vec (StIdx S) Z → Vec (StIdx S) Z → Type 0
KeepsStates index old new = states_of index new.items ≡ states_of index old.items

-- the list's room didn't shrink
abbrev pub KeepsRoom : {X Z : Type 0} → Vec X Z → Vec X Z → Type 0
KeepsRoom old new = vec_capacity old ≤ vec_capacity new

-- the list fills its room
abbrev pub IsFilled : {X Z : Type 0} → Vec X Z → Type 0
IsFilled states = vec_capacity states ≤ length states.items
