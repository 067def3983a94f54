-- One step under a lookahead, over any list of states: a stack, or the states of a chain.
use Rattle.std.specs.Prelude.{◌≡◌, ◌<◌, ◌≤◌, ℕ, List, [], ◌∷◌, ◌++◌, length, Some, None}
use Rattle.lrpar_grammar_places.specs.declared.span.PIdx.{PIdx}
use Rattle.lrpar_grammar_places.specs.declared.span.TIdx.{TIdx}
use Rattle.lrpar_grammar.specs.Grammar.{Grammar, prods_len, prod_len, rules_len, rule_of}
use Rattle.lrpar_table_stacks.specs.Chain.{DropsAll}
use Rattle.lrpar_table_stacks.specs.Reduction.{Reduces, top_action, top_goto, left_by}
use Rattle.lrpar_table_stacks.specs.StackReduction.{IsStepShortOfMemory, StackReduces}
use Rattle.lrpar_table_rows.specs.PlainRows.{plain_action}
use Rattle.lrpar_table_rows.specs.Table.{Table, ReduceBy, action_of}
use Rattle.lrpar_table_rows.specs.declared.rows.Action.{Action}
use Rattle.lrpar_table_stacks.specs.declared.state_stack.StateStack as stack
use Rattle.lrpar_table_stacks.specs.declared.reduction.Step.{Step}
use Rattle.lrpar_table_stacks.specs.declared.reduction.Step.TheVariants.{Reduced, LeavesNone, Stays}

-- the table reduces by productions of the grammar, and has its rules
pub record FitsGrammar (g : Grammar) (table : Table) : Type 0 where
  pub reduces : (s t p : ℕ) → action_of table s t ≡ ReduceBy p → p < prods_len g
  pub rules : table.rules ≡ rules_len g

-- The states are reduced by p, which gives the states `after`; or p has at least as many symbols as there are states; or the
-- state that is left has no goto.
abbrev pub IsReduction : Grammar → Table → ℕ → List ℕ → Step → List ℕ → Type 0
IsReduction g table p st Reduced after =
    (prod_len g p < length st)
    × ((state : ℕ) × (top_goto table (rule_of g p) (left_by g p st) ≡ Some state) × (after ≡ left_by g p st ++ state ∷ []))
IsReduction g table p st LeavesNone after = (length st ≤ prod_len g p) × (after ≡ st)
IsReduction g table p st Stays after = (prod_len g p < length st) × (top_goto table (rule_of g p) (left_by g p st) ≡ None) × (after ≡ st)

-- At token t the states make a reduction, which gives the states `after`; or their reduction would drop them all; or no
-- reduction is due.
abbrev pub IsStepOf : Grammar → Table → ℕ → List ℕ → Step → List ℕ → Type 0
IsStepOf g table t st Reduced after = (p : ℕ) × Reduces g table t st p after
IsStepOf g table t st LeavesNone after = DropsAll g table t st × (after ≡ st)
IsStepOf g table t st Stays after = ((p : ℕ) (next : List ℕ) → ¬ (Reduces g table t st p next)) × ¬ (DropsAll g table t st) × (after ≡ st)

-- p has fewer symbols than there are states, and the state that it leaves has a goto
abbrev pub CanReduce : Grammar → Table → ℕ → List ℕ → Type 0
CanReduce g table p st = (prod_len g p < length st) × ((state : ℕ) × (top_goto table (rule_of g p) (left_by g p st) ≡ Some state))

-- if the stack was reduced by p, the relation `reduces` holds; otherwise the stack stays as it is
abbrev pub IsRestOf : {X : Type 0} → (X → ℕ → ℕ → ℕ → X → Type 0) → Grammar → ℕ → X → Step → X → Type 0
IsRestOf reduces g p old Reduced new = reduces old p (rule_of g p) (prod_len g p) new
IsRestOf reduces g p old LeavesNone new = new ≡ old
IsRestOf reduces g p old Stays new = new ≡ old

-- at token t the stack, of any kind, makes a reduction; otherwise it stays as it is
abbrev pub IsStackStep : {X : Type 0} → (X → List ℕ) → (X → ℕ → ℕ → ℕ → X → Type 0) → Grammar → Table → ℕ → X → Step → X → Type 0
IsStackStep states reduces g table t old Reduced new = (p : ℕ) × StackReduces states reduces g table t old p new
IsStackStep states reduces g table t old LeavesNone new = new ≡ old
IsStackStep states reduces g table t old Stays new = new ≡ old

-- the stack of code allows the reduction by p, if it has the states for it
abbrev pub AllowsReduction : {S X : Type 0} → (S → ℕ) → stack.Ghosts X S → Grammar → Table → PIdx S → X → Type 0
AllowsReduction index kind g table p old =
    CanReduce g table (index p.0) (kind.states old) → kind.can_reduce old (index p.0) (rule_of g (index p.0)) (prod_len g (index p.0))

-- the stack of code was reduced by the production, or the step says why not; both its states and the rest
pub record IsReductionMade {S X : Type 0} (index : S → ℕ) (kind : stack.Ghosts X S) (g : Grammar) (table : Table) (prod : PIdx S) (old new : X) (step : Step) : Type 0 where
  pub of_states : IsReduction g table (index prod.0) (kind.states old) step (kind.states new)
  pub of_rest : IsRestOf kind.reduces g (index prod.0) old step new

-- the stack of code can be reduced by the production, but an allocation failed for it: the states stay
pub record FailsReduction {S X : Type 0} (index : S → ℕ) (kind : stack.Ghosts X S) (g : Grammar) (table : Table) (prod : PIdx S) (old new : X) : Type 0 where
  pub due : CanReduce g table (index prod.0) (kind.states old)
  pub stays : kind.states new ≡ kind.states old
  pub of_rest : kind.fails old (prod_len g (index prod.0)) new

-- the stack of code took the step at the token, both its states and the rest; with the step comes the action of the top
-- before it
pub record TakesStep {S X : Type 0} (index : S → ℕ) (kind : stack.Ghosts X S) (g : Grammar) (table : Table) (t : TIdx S) (old new : X) (taken : Step × Action S) : Type 0 where
  pub of_states : IsStepOf g table (index t.0) (kind.states old) taken.0 (kind.states new)
  pub of_stack : IsStackStep kind.states kind.reduces g table (index t.0) old taken.0 new
  pub action : plain_action index taken.1 ≡ top_action table (index t.0) (kind.states old)

-- an allocation failed for the step of the stack of code at the token
abbrev pub FailsStep : {S X : Type 0} → (S → ℕ) → stack.Ghosts X S → Grammar → Table → TIdx S → X → X → Type 0
FailsStep index kind g table t old new = IsStepShortOfMemory kind.states kind.fails g table (index t.0) old new
