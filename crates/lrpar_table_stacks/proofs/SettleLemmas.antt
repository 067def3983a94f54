-- Reductions of a stack over a checked table: they keep it a stack, and if a step makes none, none is due.
use Rattle.std.proofs.Common.{◌≡◌, ◌<◌, ◌≤◌, ◌+◌, ◌-◌, ◌∙◌, ◌⊎◌, inl, inr, sym, subst, arith, ℕ, zero, suc, List, [], ◌∷◌, ◌++◌, length, take, Some, Result, Ok, Err, length-append}
use Rattle.std.proofs.lemmas.List.Elements.{All-cons, All-nil}
use Rattle.std.specs.List.{All}
use Rattle.std.specs.Result.{OnErr}
use Rattle.lrpar_grammar.specs.Grammar.{Grammar, IsWellFormed, prod_len, rule_of}
use Rattle.lrpar_grammar.proofs.PartsLemmas.{rule_of_within}
use Rattle.lrpar_table_stacks.specs.Chain.{IsBounded, most_reductions}
use Rattle.lrpar_table_stacks.specs.Path.{NeverSticks}
use Rattle.lrpar_table_stacks.specs.Reduction.{Reduces, ReducesBy, Settles, IsSettled, top_action, left_by, top_goto}
use Rattle.lrpar_table_stacks.specs.Stack.{AreJoined, IsJoined, IsStack, top_of}
use Rattle.lrpar_table_stacks.specs.StackReduction.{IsStackSettledBy, StackReducesBy}
use Rattle.lrpar_table_stacks.specs.ReductionStep.{FitsGrammar, IsStackStep, IsStepOf}
use Rattle.lrpar_table_rows.specs.Table.{Table, ShiftTo, IsClosed, goto_of, states_len}
use Rattle.lrpar_table_stacks.specs.declared.reduction.Step.{Step}
use Rattle.lrpar_table_stacks.specs.declared.reduction.Step.TheVariants.{Reduced, LeavesNone, Stays}
use Rattle.lrpar_table_stacks.proofs.PathLemmas.{last_of, top_is_last}
use Rattle.lrpar_table_stacks.proofs.StackLemmas.{joined_within, stack_has_path}
use Rattle.lrpar_table_stacks.proofs.StackReductionLemmas.{stack_reduces_more, states_reduce_by}
use Rattle.lrpar_table_stacks.proofs.StepLemmas.{action_by_top, goto_by_top}

-- the states of a stack are of the table
joined_states : (table : Table) → IsClosed table → (s : ℕ) (st : List ℕ) → s < states_len table → AreJoined table s st
    → All (λ s. s < states_len table) (s ∷ st)
joined_states table closed s [] within joined = All-cons (λ s. s < states_len table) s [] within (All-nil (λ s. s < states_len table))
joined_states table closed s (next ∷ st) within joined =
    All-cons (λ s. s < states_len table) s (next ∷ st) within
    (joined_states table closed next st (joined_within table closed s next joined.0) joined.1)

pub stack_states : (table : Table) → IsClosed table → (st : List ℕ) → IsStack table st → All (λ s. s < states_len table) st
stack_states table closed [] stack = absurd stack
stack_states table closed (s ∷ st) stack =
    joined_states table closed s st (subst (λ (s : ℕ). s < states_len table) (sym stack.0) closed.start_within) stack.1

-- a stack with one more state, joined to the top, is a stack
joined_top : (table : Table) (s : ℕ) (st : List ℕ) (next : ℕ) → AreJoined table s st → IsJoined table (last_of s st) next
    → AreJoined table s (st ++ next ∷ [])
joined_top table s [] next joined top = (top, tt)
joined_top table s (above ∷ st) next joined top = (joined.0, joined_top table above st next joined.1 top)

stack_more : (table : Table) (st : List ℕ) (next : ℕ) → IsStack table st → ((s : ℕ) → top_of st ≡ Some s → IsJoined table s next)
    → IsStack table (st ++ next ∷ [])
stack_more table [] next stack top = absurd stack
stack_more table (s ∷ st) next stack top = (stack.0, joined_top table s st next stack.1 (top (last_of s st) (top_is_last s st)))

-- the lower states of a stack are a stack
joined_front : (table : Table) (s n : ℕ) (st : List ℕ) → AreJoined table s st → AreJoined table s (take n st)
joined_front table s zero st joined = tt
joined_front table s (suc n) [] joined = tt
joined_front table s (suc n) (next ∷ st) joined = (joined.0, joined_front table next n st joined.1)

stack_front : (table : Table) (n : ℕ) (st : List ℕ) → IsStack table st → 0 < n → IsStack table (take n st)
stack_front table zero st stack some = absurd (omega arith)
stack_front table (suc n) [] stack some = stack
stack_front table (suc n) (s ∷ st) stack some = (stack.0, joined_front table s n st stack.1)

-- reductions after which the stack is settled are all of them
pub settles_at_end : (g : Grammar) (table : Table) (t : ℕ) (st prods after : List ℕ) → ReducesBy g table t st prods after → IsSettled table t after
    → Settles g table t st prods after
settles_at_end g table t st [] after same settled = (same, subst (λ (s : List ℕ). IsSettled table t s) (sym same) settled)
settles_at_end g table t st (p ∷ prods) after all settled =
    (all.0, all.1, settles_at_end g table t all.0 prods after all.2 settled)

-- what is known of a checked table
pub record IsRun (g : Grammar) (table : Table) (cap : ℕ) : Type 0 where
  pub formed : IsWellFormed g
  pub closed : IsClosed table
  pub fits : FitsGrammar g table
  pub runs : NeverSticks g table
  pub bounds : IsBounded g table cap

module _ (g : Grammar) (table : Table) (cap : ℕ) (run : IsRun g table cap) (t : ℕ) (token : t < table.tokens) where
  -- a reduction of a stack gives a stack
  pub stack_reduced : (st : List ℕ) (p : ℕ) (after : List ℕ) → IsStack table st → Reduces g table t st p after → IsStack table after
  stack_reduced st p after stack reduces =
      let deep : prod_len g p < length st = reduces.deep in
      let left = stack_front table (length st - prod_len g p) st stack (omega arith) in
      let rule : rule_of g p < table.rules = rw run.fits.rules (rule_of_within g p run.formed reduces.known) in
      let more = stack_more table (left_by g p st) reduces.state left (λ s top. inr (rule_of g p, rule, goto_found (left_by g p st) s top reduces.goto)) in
      subst (IsStack table) (sym reduces.pushed) more
    where
      goto_found : (left : List ℕ) (s : ℕ) → top_of left ≡ Some s → top_goto table (rule_of g p) left ≡ Some reduces.state
          → goto_of table s (rule_of g p) ≡ Some reduces.state
      goto_found left s top goto = sym (goto_by_top table (rule_of g p) left s top) ∙ goto

  -- so does a shift
  pub stack_shifted : (st : List ℕ) (next : ℕ) → IsStack table st → top_action table t st ≡ ShiftTo next → IsStack table (st ++ next ∷ [])
  stack_shifted st next stack shift =
      stack_more table st next stack (λ s top. inl (t, token, sym (action_by_top table t st s top) ∙ shift))

  -- a step that makes no reduction leaves the stack as it is, and no reduction is due
  pub settled_by_step : (st after : List ℕ) (step : Step) → IsStack table st → (step ≡ LeavesNone) ⊎ (step ≡ Stays) → IsStepOf g table t st step after
      → (after ≡ st) × IsSettled table t st
  settled_by_step st after step stack is h =
      let path = stack_has_path table st stack in
      elim is as (λ _. (after ≡ st) × IsSettled table t st) [
        | inl leaves ↦
            let drops = subst (λ (s : Step). IsStepOf g table t st s after) leaves h in
            let along = run.runs.reduces path.0 st t drops.0.0 path.1 drops.0.1 in
            absurd (omega (arith, along.reduces.deep, drops.0.2))
        | inr stays ↦
            let none = subst (λ (s : Step). IsStepOf g table t st s after) stays h in (
              none.2,
              λ p action.
                  let along = run.runs.reduces path.0 st t p path.1 action in none.0 p along.after along.reduces,
            )
      ]

  -- reductions of a stack are bounded
  pub stack_bounds : (st prods after : List ℕ) → IsStack table st → ReducesBy g table t st prods after
      → (length prods ≤ most_reductions cap (length st))
      × (length prods + most_reductions cap (length after) ≤ most_reductions cap (length st + cap + 2))
  stack_bounds st prods after stack reduces =
      let path = stack_has_path table st stack in run.bounds path.0 st t prods after path.1 token reduces

  module _ {X : Type 0} (states : X → List ℕ) (reduces : X → ℕ → ℕ → ℕ → X → Type 0) where
    -- a step that makes no reduction leaves the stack as it is
    pub stays_by_step : (mid new : X) (step : Step) → (step ≡ LeavesNone) ⊎ (step ≡ Stays) → IsStackStep states reduces g table t mid step new
        → new ≡ mid
    stays_by_step mid new step (inl is) h = subst (λ (s : Step). IsStackStep states reduces g table t mid s new) is h
    stays_by_step mid new step (inr is) h = subst (λ (s : Step). IsStackStep states reduces g table t mid s new) is h

    -- and it ends the reductions
    pub stack_settled_by : (old mid new : X) (prods : List ℕ) (count : ℕ) (step : Step) → IsStack table (states old) → IsStack table (states mid)
        → StackReducesBy states reduces g table t old prods mid → count ≡ length prods → (step ≡ LeavesNone) ⊎ (step ≡ Stays)
        → IsStepOf g table t (states mid) step (states new) → IsStackStep states reduces g table t mid step new
        → IsStackSettledBy states reduces g table cap t old count new
    stack_settled_by old mid new prods count step stack_old stack_mid made counted is of_states of_stack =
        let settled = settled_by_step (states mid) (states new) step stack_mid is of_states in
        let reduced = states_reduce_by states reduces g table t old prods mid made in
        let bounds = stack_bounds (states old) prods (states mid) stack_old reduced in
        let P : X → Type 0 = λ x. IsStackSettledBy states reduces g table cap t old count x in
        subst P (sym (stays_by_step mid new step is of_stack)) (record {
          of_states = record {
            prods = prods;
            settles = settles_at_end g table t (states old) prods (states mid) reduced settled.1;
            counted = counted;
            stack = stack_mid;
            by_height = bounds.0;
            by_loss = bounds.1;
          };
          by = made;
        })

    -- a step that makes a reduction makes one more, which the bound allows
    pub stack_reduced_once : (old mid new : X) (prods : List ℕ) (step : Step) → IsStack table (states old) → IsStack table (states mid)
        → StackReducesBy states reduces g table t old prods mid → step ≡ Reduced → IsStackStep states reduces g table t mid step new
        → IsStack table (states new) × (length prods < most_reductions cap (length (states old)))
        × ((more : List ℕ) × (length more ≡ length prods + 1) × StackReducesBy states reduces g table t old more new)
    stack_reduced_once old mid new prods step stack_old stack_mid made is of_stack =
        let one = subst (λ (s : Step). IsStackStep states reduces g table t mid s new) is of_stack in
        let more = stack_reduces_more states reduces g table t old prods mid one.0 new made one.1 in
        let counted : length (prods ++ one.0 ∷ []) ≡ length prods + 1 = length-append prods (one.0 ∷ []) in
        let bounds =
        stack_bounds (states old) (prods ++ one.0 ∷ []) (states new) stack_old
        (states_reduce_by states reduces g table t old (prods ++ one.0 ∷ []) new more) in (
          stack_reduced (states mid) one.0 (states new) stack_mid one.1.of_states,
          omega (arith, bounds.0, counted),
          (prods ++ one.0 ∷ [], counted, more),
        )

-- what holds in any case holds of an error
pub on_err_always : {T E : Type 0} (r : Result T E) (Q : Type 0) → Q → OnErr r Q
on_err_always (Ok x) Q h = tt
on_err_always (Err e) Q h = h
