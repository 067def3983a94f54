-- What a run takes off a stack. A parser is a pushdown system: what it does next depends on its control and on the state on top. The
-- relation `Pops` says in which control a run can leave a state that was on top, whatever lies below, if the tokens that are read may be
-- any. This is the relation that saturation computes for pushdown systems (Bouajjani, Esparza and Maler, 'Reachability Analysis of Pushdown
-- Automata', 1997). Stacks are written top first here.
use Rattle.std.specs.Prelude.{◌≡◌, ℕ, suc, List, [], ◌∷◌, Some}
use Rattle.lrpar_grammar.specs.Grammar.{Grammar, end_token, prod_len, rule_of}
use Rattle.lrpar_table_rows.specs.Table.{Table, ShiftTo, ReduceBy, Accepts, action_of, goto_of}

-- what a run does next: it acts at this lookahead; or it reduces by a production at this lookahead, and drops this number of states first;
-- or it has accepted
pub data Control : Type 0 where
  Reading : (token : ℕ) → Control
  Dropping : (prod left token : ℕ) → Control
  Done : Control

-- With state s on top, a run in the first control can take s off the stack, and is then in the second control. It looks at no state below
-- s, and the tokens that it shifts on the way may be any.
pub data Pops (g : Grammar) (table : Table) : Control → ℕ → Control → Type 0 where
  -- a state is dropped
  drops : (s p left t : ℕ) → Pops g table (Dropping p (suc left) t) s (Dropping p left t)
  -- a reduction begins
  reduces : (s t p : ℕ) (r : Control) → action_of table s t ≡ ReduceBy p → Pops g table (Dropping p (prod_len g p) t) s r
      → Pops g table (Reading t) s r
  -- all states are dropped: the goto of s is pushed, taken off in turn, and then s is
  goes : (s p t next : ℕ) (q r : Control) → goto_of table s (rule_of g p) ≡ Some next → Pops g table (Reading t) next q → Pops g table q s r
      → Pops g table (Dropping p 0 t) s r
  -- the token is shifted, and any token comes next: the state that is pushed is taken off in turn, and then s is
  shifts : (s t next u : ℕ) (q r : Control) → action_of table s t ≡ ShiftTo next → Pops g table (Reading u) next q → Pops g table q s r
      → Pops g table (Reading t) s r
  -- the run accepts
  accepts : (s : ℕ) → action_of table s (end_token g) ≡ Accepts → Pops g table (Reading (end_token g)) s Done
  -- a run that has accepted needs the states below no more
  ends : (s : ℕ) → Pops g table Done s Done

-- in this control a run can take all states off, one after the other, and has then accepted
abbrev pub PopsAll : Grammar → Table → Control → List ℕ → Type 0
PopsAll g table q [] = q ≡ Done
PopsAll g table q (s ∷ below) = (r : Control) × Pops g table q s r × PopsAll g table r below
