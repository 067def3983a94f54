-- What a checked table is to a run over it.
use Rattle.std.proofs.Common.{◌≡◌, ◌<◌, ◌+◌, ◌∙◌, ◌⊎◌, ℕ, List, [], ◌∷◌, ap, arith, length, subst, sym}
use Rattle.lrpar_grammar_places.specs.declared.span.TIdx.{TIdx}
use Rattle.lrpar_table_rows.specs.PlainRows.{plain_action}
use Rattle.lrpar_table_rows.specs.Table.{Table, IsClosed}
use Rattle.lrpar_table_rows.specs.declared.rows.Action.{Action}
use Rattle.lrpar_table_stacks.specs.Chain.{IsBounded, most_reductions}
use Rattle.lrpar_table_stacks.specs.Path.{NeverSticks}
use Rattle.lrpar_table_stacks.specs.Reduction.{top_action}
use Rattle.lrpar_table_stacks.specs.ReductionStep.{IsStackStep, TakesStep}
use Rattle.lrpar_table_stacks.specs.Stack.{AreSomeStatesOf, IsStack}
use Rattle.lrpar_table_stacks.specs.StackReduction.{IsStackSettledBy, StackReduces, StackReducesBy}
use Rattle.lrpar_table_stacks.specs.declared.reduction.Step.{Step}
use Rattle.lrpar_table_stacks.specs.declared.reduction.Step.TheVariants.{Reduced, LeavesNone, Stays}
use Rattle.lrpar_table_stacks.specs.declared.state_stack.StateStack as kinds
use Rattle.lrpar_table_check.specs.Checked.{Checked, IsChecked}
use Rattle.lrpar_table_check.specs.CheckedStacks.{IsStackOf, IsTokenOf}
use Rattle.lrpar_table_stacks.proofs.SettleLemmas.{IsRun, stack_reduced_once, stack_settled_by, stack_states, stays_by_step}

pub run_of_checked : (d : Checked) → IsChecked d → NeverSticks d.grammar d.table → IsBounded d.grammar d.table d.cap
    → IsRun d.grammar d.table d.cap
run_of_checked d checked runs bounds = record {
  formed = checked.well_formed;
  closed = checked.closed;
  fits = record { reduces = checked.safe.shape.reduces; rules = checked.safe.shape.rules };
  runs = runs;
  bounds = bounds;
}

-- the states of a stack are states of the table, and at least one
pub some_stack_states : (table : Table) → IsClosed table → (st : List ℕ) → IsStack table st → AreSomeStatesOf table st
some_stack_states table closed st stack = record { some = not_empty st stack; within = stack_states table closed st stack }
  where
    not_empty : (st : List ℕ) → IsStack table st → 0 < length st
    not_empty [] stack = absurd stack
    not_empty (s ∷ st) stack = omega arith

-- At the token the stack `mid`, which `count` reductions made of `old`, makes one more reduction, by `prod`.
pub record IsOneMore {S X : Type 0} (index : S → ℕ) (kind : kinds.Ghosts X S) (d : Checked) (t : TIdx S) (old mid new : X) (count : ℕ) : Type 0 where
  pub below : count < most_reductions d.cap (length (kind.states old))
  pub stack : IsStackOf d (kind.states new)
  pub made : (prods : List ℕ) × StackReducesBy kind.states kind.reduces d.grammar d.table (index t.0) old prods new × (count + 1 ≡ length prods)
  pub prod : ℕ
  pub reduces : StackReduces kind.states kind.reduces d.grammar d.table (index t.0) mid prod new

-- At the token it makes no more, and stays; the action is that of its top.
pub record IsAtEnd {S X : Type 0} (index : S → ℕ) (kind : kinds.Ghosts X S) (d : Checked) (t : TIdx S) (old mid new : X) (count : ℕ) (does : Action S) : Type 0 where
  pub settled : IsStackSettledBy kind.states kind.reduces d.grammar d.table d.cap (index t.0) old count new
  pub action : plain_action index does ≡ top_action d.table (index t.0) (kind.states new)
  pub same : new ≡ mid

module _ {S X : Type 0} (index : S → ℕ) (kind : kinds.Ghosts X S) (d : Checked) (checked : IsChecked d) (runs : NeverSticks d.grammar d.table)
    (bounds : IsBounded d.grammar d.table d.cap) (t : TIdx S) (token : IsTokenOf index d t) (old mid new : X) (count : ℕ) (step : Step) (does : Action S)
    (stack_old : IsStackOf d (kind.states old)) (stack_mid : IsStackOf d (kind.states mid))
    (made : (prods : List ℕ) × StackReducesBy kind.states kind.reduces d.grammar d.table (index t.0) old prods mid × (count ≡ length prods))
    (taken : TakesStep index kind d.grammar d.table t mid new (step, does)) where
  run : IsRun d.grammar d.table d.cap
  run = run_of_checked d checked runs bounds

  -- a step that makes a reduction
  pub one_more : step ≡ Reduced → IsOneMore index kind d t old mid new count
  one_more is =
      let more =
      stack_reduced_once d.grammar d.table d.cap run (index t.0) token kind.states kind.reduces old mid new made.0 step stack_old stack_mid made.1 is
      taken.of_stack in
      let one = subst (λ (s : Step). IsStackStep kind.states kind.reduces d.grammar d.table (index t.0) mid s new) is taken.of_stack in
      record {
        below = subst (λ (n : ℕ). n < most_reductions d.cap (length (kind.states old))) (sym made.2) more.1;
        stack = more.0;
        made = (more.2.0, more.2.2, omega (arith, more.2.1, made.2));
        prod = one.0;
        reduces = one.1;
      }

  -- a step that makes none
  pub at_end : (step ≡ LeavesNone) ⊎ (step ≡ Stays) → IsAtEnd index kind d t old mid new count does
  at_end is =
      let same = stays_by_step d.grammar d.table d.cap run (index t.0) token kind.states kind.reduces mid new step is taken.of_stack in
      record {
        settled =
            stack_settled_by d.grammar d.table d.cap run (index t.0) token kind.states kind.reduces old mid new made.0 count step stack_old stack_mid
            made.1 made.2 is taken.of_states taken.of_stack;
        action = taken.action ∙ ap (λ (x : X). top_action d.table (index t.0) (kind.states x)) (sym same);
        same = same;
      }
