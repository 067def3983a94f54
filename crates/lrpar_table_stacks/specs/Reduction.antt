-- Reductions under a lookahead. The table may be of any rows: if a reduction can't be made, there is none.
use Rattle.std.specs.Prelude.{◌≡◌, ◌<◌, ◌-◌, ℕ, List, [], ◌∷◌, ◌++◌, length, take, Option, Some}
use Rattle.std.specs.Option.{option_map_or, option_and_then}
use Rattle.lrpar_grammar.specs.Grammar.{Grammar, prods_len, prod_len, rule_of}
use Rattle.lrpar_table_rows.specs.Table.{Table, TableAction, ShiftTo, ReduceBy, Fails, action_of, goto_of}
use Rattle.lrpar_table_stacks.specs.Stack.{top_of}

-- the action of a stack at token t: that of its top
abbrev pub top_action : Table → ℕ → List ℕ → TableAction
top_action table t st = option_map_or (λ s. action_of table s t) (top_of st) Fails

-- the goto of a stack by rule r: that of its top
abbrev pub top_goto : Table → ℕ → List ℕ → Option ℕ
top_goto table r st = option_and_then (λ s. goto_of table s r) (top_of st)

-- the states that are left of a stack after the symbols of a production are dropped
abbrev pub left_by : Grammar → ℕ → List ℕ → List ℕ
left_by g p st = take (length st - prod_len g p) st

-- at token t the stack reduces by production p, which gives the stack `after`: one state for each symbol of the production is
-- dropped, at least one state is left, and the goto of the top one by the production's rule is pushed
pub record Reduces (g : Grammar) (table : Table) (t : ℕ) (st : List ℕ) (p : ℕ) (after : List ℕ) : Type 0 where
  pub action : top_action table t st ≡ ReduceBy p
  pub known : p < prods_len g
  pub deep : prod_len g p < length st
  pub state : ℕ
  pub goto : top_goto table (rule_of g p) (left_by g p st) ≡ Some state
  pub pushed : after ≡ left_by g p st ++ state ∷ []

-- at token t the stack reduces by each of `prods`, in this order, which gives the stack `after`; more may follow
abbrev pub ReducesBy : Grammar → Table → ℕ → List ℕ → List ℕ → List ℕ → Type 0
ReducesBy g table t st [] after = st ≡ after
ReducesBy g table t st (p ∷ prods) after = (next : List ℕ) × Reduces g table t st p next × ReducesBy g table t next prods after

-- at token t the top of the stack has no reduction
abbrev pub IsSettled : Table → ℕ → List ℕ → Type 0
IsSettled table t st = (p : ℕ) → ¬ (top_action table t st ≡ ReduceBy p)

-- at token t the stack makes the reductions by `prods`, in this order, which give the stack `after`, and no more
abbrev pub Settles : Grammar → Table → ℕ → List ℕ → List ℕ → List ℕ → Type 0
Settles g table t st [] after = (st ≡ after) × IsSettled table t st
Settles g table t st (p ∷ prods) after = (next : List ℕ) × Reduces g table t st p next × Settles g table t next prods after

-- at token t the stack makes all reductions, by `prods`, and the top of the stack that they give shifts the token to a
-- state, which is pushed: this gives the stack `after`
pub record Feeds (g : Grammar) (table : Table) (t : ℕ) (st prods after : List ℕ) : Type 0 where
  pub settled : List ℕ
  pub settles : Settles g table t st prods settled
  pub next : ℕ
  pub shifts : top_action table t settled ≡ ShiftTo next
  pub pushed : after ≡ settled ++ next ∷ []

-- reductions are deterministic: from a stack, under a lookahead, there is at most one list of all reductions
abbrev pub SettlesOneWay : Type 0
SettlesOneWay =
    (g : Grammar) (table : Table) (t : ℕ) (st : List ℕ) (ps qs a b : List ℕ)
    → Settles g table t st ps a → Settles g table t st qs b → (ps ≡ qs) × (a ≡ b)
