-- What the stacks of a run do at a token.
use Rattle.std.specs.Prelude.{◌≡◌, ◌≤◌, ◌+◌, ℕ, List, [], ◌∷◌, ◌++◌, length}
use Rattle.lrpar_grammar.specs.Grammar.{Terminal}
use Rattle.lrpar_table_rows.specs.Table.{ShiftTo, Fails}
use Rattle.lrpar_table_stacks.specs.Chain.{most_reductions}
use Rattle.lrpar_table_check.specs.Checked.{Checked}
use Rattle.lrpar_table_stacks.specs.Reduction.{IsSettled, top_action}
use Rattle.lrpar_parse_run.specs.Building.{Building}
use Rattle.lrpar_parse_run.specs.RunStack.{Stacked, ReducesAllTo}

-- at token t the stacks make all reductions that are due, within the bound of their states
pub record SettlesTo {X E : Type 0} (builds : Building X E) (d : Checked) (t : ℕ) (old new : Stacked E) : Type 0 where
  pub prods : List ℕ
  pub steps : ReducesAllTo (builds.node d.grammar) builds.suits d.grammar d.table t old prods new
  pub settled : IsSettled d.table t new.states
  pub few : length prods + most_reductions d.cap (length new.states) ≤ most_reductions d.cap (length old.states + d.cap + 2)

-- the stacks make all reductions at token t, and then the top has no action
pub record Sticks {X E : Type 0} (builds : Building X E) (d : Checked) (t : ℕ) (old new : Stacked E) : Type 0 where
  pub settles : SettlesTo builds d t old new
  pub fails : top_action d.table t new.states ≡ Fails

-- lexeme x with token t is shifted: the stacks make all reductions at the token, and then push the next state with an entry of x
pub record Shifts {X E : Type 0} (builds : Building X E) (d : Checked) (t : ℕ) (x : X) (old new : Stacked E) : Type 0 where
  pub mid : Stacked E
  pub settles : SettlesTo builds d t old mid
  pub next : ℕ
  pub shifts : top_action d.table t mid.states ≡ ShiftTo next
  pub of_states : new.states ≡ mid.states ++ next ∷ []
  pub entry : E
  pub made : builds.leaf x entry
  pub suit : builds.suits (Terminal t) entry
  pub of_entries : new.entries ≡ mid.entries ++ entry ∷ []
