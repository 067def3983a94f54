-- Reductions of a stack of any kind, which may have more than its states. The function `states` gives its states. The relation
-- `reduces` says what a reduction does to the rest: from a stack, by a production, of a rule, with this number of symbols, to
-- a stack.
use Rattle.std.specs.Prelude.{◌≡◌, ◌≢◌, ℕ, List, [], ◌∷◌, ◌++◌, Bool, true, false}
use Rattle.lrpar_grammar.specs.Grammar.{Grammar, prod_len, rule_of}
use Rattle.lrpar_table_rows.specs.Table.{Table, ShiftTo}
use Rattle.lrpar_table_stacks.specs.Reduction.{Reduces, top_action}
use Rattle.lrpar_table_stacks.specs.Settled.{IsSettledBy}

-- at token t the stack reduces by p: its states do, and `reduces` holds of the rest
pub record StackReduces {X : Type 0} (states : X → List ℕ) (reduces : X → ℕ → ℕ → ℕ → X → Type 0) (g : Grammar) (table : Table) (t : ℕ) (old : X) (p : ℕ) (new : X) : Type 0 where
  pub of_states : Reduces g table t (states old) p (states new)
  pub of_rest : reduces old p (rule_of g p) (prod_len g p) new

-- at token t the stack reduces by each of `prods`, in this order
abbrev pub StackReducesBy : {X : Type 0} → (X → List ℕ) → (X → ℕ → ℕ → ℕ → X → Type 0) → Grammar → Table → ℕ → X → List ℕ → X → Type 0
StackReducesBy states reduces g table t old [] new = old ≡ new
StackReducesBy {X} states reduces g table t old (p ∷ prods) new =
    (next : X) × StackReduces states reduces g table t old p next × StackReducesBy states reduces g table t next prods new

-- At token t the stack makes all reductions, and `count` is their number, within the bounds for its states.
pub record IsStackSettledBy {X : Type 0} (states : X → List ℕ) (reduces : X → ℕ → ℕ → ℕ → X → Type 0) (g : Grammar) (table : Table) (cap t : ℕ) (old : X) (count : ℕ) (new : X) : Type 0 where
  pub of_states : IsSettledBy g table cap t (states old) count (states new)
  pub by : StackReducesBy states reduces g table t old of_states.prods new

-- At token t a reduction of the stack is due, and an allocation for it failed. Its states stay; of the rest, `fails` holds for
-- this number of symbols.
pub record IsStepShortOfMemory {X : Type 0} (states : X → List ℕ) (fails : X → ℕ → X → Type 0) (g : Grammar) (table : Table) (t : ℕ) (old new : X) : Type 0 where
  pub prod : ℕ
  pub after : List ℕ
  pub due : Reduces g table t (states old) prod after
  pub stays : states new ≡ states old
  pub of_rest : fails old (prod_len g prod) new

-- at token t the stack makes the first reductions, and an allocation failed for the next one
pub record IsStackShortOfMemory {X : Type 0} (states : X → List ℕ) (reduces : X → ℕ → ℕ → ℕ → X → Type 0) (fails : X → ℕ → X → Type 0) (g : Grammar) (table : Table) (t : ℕ) (old new : X) : Type 0 where
  pub prods : List ℕ
  pub mid : X
  pub by : StackReducesBy states reduces g table t old prods mid
  pub next : IsStepShortOfMemory states fails g table t mid new

-- At token t the stack makes all reductions, which give the stack `settled`; the top of that shifts the token to a state,
-- which is pushed; and `shifts` holds of the rest.
pub record StackFeeds {X : Type 0} (states : X → List ℕ) (reduces : X → ℕ → ℕ → ℕ → X → Type 0) (shifts : X → X → Type 0) (g : Grammar) (table : Table) (cap t : ℕ) (old new : X) : Type 0 where
  pub settled : X
  pub count : ℕ
  pub settles : IsStackSettledBy states reduces g table cap t old count settled
  pub next : ℕ
  pub does : top_action table t (states settled) ≡ ShiftTo next
  pub pushed : states new ≡ states settled ++ next ∷ []
  pub of_rest : shifts settled new

-- at token t the stack makes all reductions, and then shifts the token; or the top doesn't shift it
abbrev pub IsStackFedBy : {X : Type 0} → (X → List ℕ) → (X → ℕ → ℕ → ℕ → X → Type 0) → (X → X → Type 0) → Grammar → Table → ℕ → ℕ → X → Bool → X → Type 0
IsStackFedBy states reduces shifts g table cap t old true new = StackFeeds states reduces shifts g table cap t old new
IsStackFedBy states reduces shifts g table cap t old false new =
    ((count : ℕ) × IsStackSettledBy states reduces g table cap t old count new) × ((next : ℕ) → top_action table t (states new) ≢ ShiftTo next)

-- At token t the stack makes all reductions, and an allocation failed for the shift that is then due. The states stay; `fails`
-- holds of the rest.
pub record IsStackShiftShortOfMemory {X : Type 0} (states : X → List ℕ) (reduces : X → ℕ → ℕ → ℕ → X → Type 0) (fails : X → X → Type 0) (g : Grammar) (table : Table) (cap t : ℕ) (old new : X) : Type 0 where
  pub settled : X
  pub count : ℕ
  pub settles : IsStackSettledBy states reduces g table cap t old count settled
  pub next : ℕ
  pub due : top_action table t (states settled) ≡ ShiftTo next
  pub stays : states new ≡ states settled
  pub of_rest : fails settled new
