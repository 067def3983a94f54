-- The exits of all states of a table, as they are stored.
use Rattle.std.specs.Prelude.{◌≡◌, ◌+◌, ◌⊎◌, ℕ, List, [], slice_get, slice_index_or, sum_by}
use Rattle.std.specs.Option.{option_map_or}
use Rattle.lrpar_grammar.specs.Grammar.{Grammar, end_token}
use Rattle.lrpar_table_rows.specs.Table.{Table, Accepts, action_of}
use Rattle.lrpar_table_pops.specs.Exits.{HasExit, HasNoExit, room_left}
use Rattle.lrpar_table_pops.specs.Pops.{Control, Pops, Reading}
use Rattle.lrpar_table_pops.specs.declared.exits.Exit.{Exit}
use Rattle.lrpar_table_pops.specs.declared.pops.StateExits.{StateExits}

-- the exits of state s at any lookahead
abbrev pub any_of : List StateExits → ℕ → List Exit
any_of states s = option_map_or (λ state. state.any) (slice_get states s) []

-- the exits of state s at lookahead t
abbrev pub at_of : List StateExits → ℕ → ℕ → List Exit
at_of states s t = option_map_or (λ state. slice_index_or state.at.items t []) (slice_get states s) []

-- a run can leave each state by these exits
pub record ArePopsOf (g : Grammar) (table : Table) (states : List StateExits) : Type 0 where
  pub by_any : (s : ℕ) (r : Control) → HasExit (any_of states s) r → (t : ℕ) × Pops g table (Reading t) s r
  pub by_token : (s t : ℕ) (r : Control) → HasExit (at_of states s t) r → Pops g table (Reading t) s r

-- none of these lists has an exit
abbrev pub HaveNoExits : List (List Exit) → Type 0
HaveNoExits lists = (t : ℕ) → HasNoExit (slice_index_or lists t [])

-- a run can't leave the state
abbrev pub HasNoExits : StateExits → Type 0
HasNoExits state = HasNoExit state.any × HaveNoExits state.at.items

-- the table accepts at the end token alone
abbrev pub AcceptsAtEndAlone : Grammar → Table → Type 0
AcceptsAtEndAlone g table = (s t : ℕ) → action_of table s t ≡ Accepts → t ≡ end_token g

-- each exit at a token is an old one; or the token is t, and the exit has P
abbrev pub AddsOnlyAt : ℕ → (Control → Type 0) → List (List Exit) → List (List Exit) → Type 0
AddsOnlyAt t P old new =
    (u : ℕ) (r : Control) → HasExit (slice_index_or new u []) r → HasExit (slice_index_or old u []) r ⊎ ((u ≡ t) × P r)

-- how many lookaheads a state, and all states, still have room for
abbrev pub room_at : StateExits → ℕ
room_at state = room_left state.any + sum_by room_left state.at.items

abbrev pub room_of : List StateExits → ℕ
room_of states = sum_by room_at states
