-- When the exits that are stored are all there are: what follows from them in one step is stored, too.
use Rattle.std.specs.Prelude.{◌≡◌, ◌⊎◌, ◌<◌, ℕ, zero, suc, Bool, IsTrue, List, Option, Some, None}
use Rattle.lrpar_grammar.specs.Grammar.{Grammar, prod_len, prods_len, rule_of, tokens_len}
use Rattle.lrpar_grammar.specs.Tokens.{has}
use Rattle.lrpar_table_rows.specs.Graph.{Graph, HasCore}
use Rattle.lrpar_table_rows.specs.Safe.{IsSafe}
use Rattle.lrpar_table_rows.specs.Table.{Table, TableAction, ShiftTo, ReduceBy, Accepts, Fails, FailsPastTokens, IsClosed, action_of, goto_of, states_len}
use Rattle.lrpar_table_pops.specs.Growth.{IsStored}
use Rattle.lrpar_table_pops.specs.Found.{IsOneOf}
use Rattle.lrpar_table_pops.specs.Pops.{Control, Done, Dropping, Pops, Reading}
use Rattle.lrpar_table_pops.specs.Sets.{tokens_by}
use Rattle.lrpar_table_pops.specs.StoredPops.{any_of, at_of}
use Rattle.lrpar_table_pops.specs.declared.exits.Exit.{Exit}
use Rattle.lrpar_table_pops.specs.declared.pops.StateExits.{StateExits}

-- in this control a run can be when it has left state s: if it still drops states, s has a core with the dot past them
abbrev pub IsLeft : Grammar → Graph → ℕ → Control → Type 0
IsLeft g graph s (Reading t) = ⊥
IsLeft g graph s (Dropping p left t) = HasCore graph s p (suc left) × (t < tokens_len g)
IsLeft g graph s Done = Unit {0}

-- in this control a run can be when it is back in state s: if it still drops s, that has a core with the dot past it
abbrev pub IsBackIn : Grammar → Graph → ℕ → Control → Type 0
IsBackIn g graph s (Reading t) = ⊥
IsBackIn g graph s (Dropping p zero t) = (p < prods_len g) × (t < tokens_len g)
IsBackIn g graph s (Dropping p (suc left) t) = HasCore graph s p (suc left) × (t < tokens_len g)
IsBackIn g graph s Done = Unit {0}

-- the control is among those that are found: a run in it leaves the state by one of the exits, or it has made one of the reductions
abbrev pub IsIncluded : Grammar → List Exit → List (List Bool) → Control → Type 0
IsIncluded g exits reduced (Reading t) = ⊥
IsIncluded g exits reduced (Dropping p zero t) = IsTrue (has (tokens_by reduced (rule_of g p)) t)
IsIncluded g exits reduced (Dropping p (suc left) t) = IsStored g exits (Dropping p left t)
IsIncluded g exits reduced Done = IsStored g exits Done

-- a state that acts so at token t leads to the control in one step, by the exits of the states that it shifts to
abbrev pub StartsIn : Grammar → List StateExits → ℕ → TableAction → Control → Type 0
StartsIn g states t (ShiftTo next) q = IsStored g (any_of states next) q
StartsIn g states t (ReduceBy p) q = q ≡ Dropping p (prod_len g p) t
StartsIn g states t Accepts q = q ≡ Done
StartsIn g states t Fails q = ⊥

-- state `next`, which acts so at token t, is left in the control, by its exits at the token where it shifts, or reduces by a production
-- without symbols
abbrev pub FollowsIn : Grammar → List StateExits → ℕ → ℕ → TableAction → Control → Type 0
FollowsIn g states next t (ShiftTo above) q = IsStored g (at_of states next t) q
FollowsIn g states next t (ReduceBy p) q =
    ((prod_len g p ≡ 0) × IsStored g (at_of states next t) q) ⊎ ((left : ℕ) × (prod_len g p ≡ suc left) × (q ≡ Dropping p left t))
FollowsIn g states next t Accepts q = q ≡ Done
FollowsIn g states next t Fails q = ⊥

-- the reductions are followed: what the gotos by their rules lead to is found, too
abbrev pub AreFollowed : Grammar → Graph → Table → List StateExits → ℕ → List Exit → List (List Bool) → Type 0
AreFollowed g graph table states s exits reduced =
    (rule t next : ℕ) (q : Control) → IsTrue (has (tokens_by reduced rule) t) → goto_of table s rule ≡ Some next
    → FollowsIn g states next t (action_of table next t) q → IsBackIn g graph s q → IsIncluded g exits reduced q

-- what follows for state s from the exits of other states, for one first lookahead or for any, is found
pub record IsClosedWith (g : Grammar) (graph : Graph) (table : Table) (states : List StateExits) (s : ℕ) (at : Option ℕ) (exits : List Exit) (reduced : List (List Bool)) : Type 0 where
  pub started : (t : ℕ) (q : Control) → IsOneOf at t → StartsIn g states t (action_of table s t) q → IsBackIn g graph s q → IsIncluded g exits reduced q
  pub followed : AreFollowed g graph table states s exits reduced

-- with some reductions, what follows for state s from the exits of other states is found
abbrev pub IsClosedAt : Grammar → Graph → Table → List StateExits → ℕ → Option ℕ → List Exit → Type 0
IsClosedAt g graph table states s at exits = (reduced : List (List Bool)) × IsClosedWith g graph table states s at exits reduced

-- a goto leads to the state
abbrev pub IsGotoState : Table → ℕ → Type 0
IsGotoState table next = (s rule : ℕ) × (goto_of table s rule ≡ Some next)

-- the action is a shift, or a reduction by a production without symbols
abbrev pub IsKeptBy : Grammar → TableAction → Type 0
IsKeptBy g (ShiftTo next) = Unit {0}
IsKeptBy g (ReduceBy p) = prod_len g p ≡ 0
IsKeptBy g Accepts = ⊥
IsKeptBy g Fails = ⊥

-- what follows for each state from the exits of others is stored
pub record AreClosed (g : Grammar) (graph : Graph) (table : Table) (states : List StateExits) : Type 0 where
  pub any : (s : ℕ) → s < states_len table → IsClosedAt g graph table states s None (any_of states s)
  pub at : (s t : ℕ) → s < states_len table → IsGotoState table s → IsKeptBy g (action_of table s t) → IsClosedAt g graph table states s (Some t) (at_of states s t)

-- a run can leave each state by these exits alone; and a state that a goto leads to, at a token, in these controls alone
pub record AreAllPopsOf (g : Grammar) (table : Table) (states : List StateExits) : Type 0 where
  pub by_any : (s t : ℕ) (r : Control) → s < states_len table → Pops g table (Reading t) s r → IsStored g (any_of states s) r
  pub by_token : (s t : ℕ) (r : Control) → s < states_len table → IsGotoState table s → Pops g table (Reading t) s r
      → FollowsIn g states s t (action_of table s t) r

-- if what follows for each state of a safe table is stored, the exits that are stored are all there are
abbrev pub ClosedExitsAreAll : Type 0
ClosedExitsAreAll =
    (g : Grammar) (graph : Graph) (table : Table) (states : List StateExits) → IsSafe g graph table → IsClosed table → FailsPastTokens table
    → AreClosed g graph table states → AreAllPopsOf g table states
