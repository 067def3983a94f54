-- The reductions of a stack of any kind are reductions of its states.
use Rattle.std.proofs.Common.{◌≡◌, ◌≤◌, ◌⊎◌, inl, inr, sym, subst, ap, arith, ℕ, List, [], ◌∷◌, ◌++◌, length, refl}
use Rattle.lrpar_grammar.specs.Grammar.{Grammar, prod_len, rule_of}
use Rattle.lrpar_table_rows.specs.Table.{Table}
use Rattle.lrpar_table_stacks.specs.Reduction.{ReducesBy}
use Rattle.lrpar_table_stacks.specs.Settled.{IsShortOfMemory, IsShiftShortOfMemory}
use Rattle.lrpar_table_stacks.specs.StackReduction.{IsStackShortOfMemory, IsStackShiftShortOfMemory, StackReduces, StackReducesBy}

module _ {X : Type 0} (states : X → List ℕ) (reduces : X → ℕ → ℕ → ℕ → X → Type 0) (g : Grammar) (table : Table) (t : ℕ) where
  -- reductions and one more are reductions
  pub stack_reduces_more : (old : X) (prods : List ℕ) (mid : X) (p : ℕ) (new : X) → StackReducesBy states reduces g table t old prods mid
      → StackReduces states reduces g table t mid p new → StackReducesBy states reduces g table t old (prods ++ p ∷ []) new
  stack_reduces_more old [] mid p new same last =
      (new, subst (λ (x : X). StackReduces states reduces g table t x p new) (sym same) last, refl)
  stack_reduces_more old (q ∷ prods) mid p new all last = (all.0, all.1, stack_reduces_more all.0 prods mid p new all.2 last)

  -- the states make the stack's reductions
  pub states_reduce_by : (old : X) (prods : List ℕ) (new : X) → StackReducesBy states reduces g table t old prods new
      → ReducesBy g table t (states old) prods (states new)
  states_reduce_by old [] new same = ap states same
  states_reduce_by old (p ∷ prods) new all = (states all.0, all.1.of_states, states_reduce_by all.0 prods new all.2)

  -- a number that no reduction makes less isn't less after several
  pub grows_by : (room : X → ℕ) → ((a : X) (p r n : ℕ) (b : X) → reduces a p r n b → room a ≤ room b) → (old : X) (prods : List ℕ) (new : X)
      → StackReducesBy states reduces g table t old prods new → room old ≤ room new
  grows_by room grows old [] new same = let e : room old ≡ room new = ap room same in omega (arith, e)
  grows_by room grows old (p ∷ prods) new all =
      omega (arith, grows old p (rule_of g p) (prod_len g p) all.0 all.1.of_rest, grows_by room grows all.0 prods new all.2)

  module _ (fails : X → ℕ → X → Type 0) (shift_fails : X → X → Type 0) (room : X → ℕ) (grows : (a : X) (p r n : ℕ) (b : X) → reduces a p r n b → room a ≤ room b)
      (full : (a : X) (n : ℕ) (b : X) → fails a n b → (n ≡ 0) × (room a ≤ room b) × (room b ≤ length (states b)))
      (shift_full : (a b : X) → shift_fails a b → (room a ≤ room b) × (room b ≤ length (states b))) where
    -- an allocation for a list of states fails only if the list is full
    pub list_short_of_memory : (old new : X) → IsStackShortOfMemory states reduces fails g table t old new
        → IsShortOfMemory g table t (states old) (room old) (states new) (room new)
    list_short_of_memory old new h =
        let here = full h.mid (prod_len g h.next.prod) new h.next.of_rest in
        let more = grows_by room grows old h.prods h.mid h.by in
        let same : length (states new) ≡ length (states h.mid) = ap (λ (st : List ℕ). length st) h.next.stays in
        let P : List ℕ → Type 0 = λ st. IsShortOfMemory g table t (states old) (room old) st (room new) in
        subst P (sym h.next.stays) (record {
          prods = h.prods;
          reduced = states_reduce_by old h.prods h.mid h.by;
          prod = h.next.prod;
          next = h.next.after;
          due = h.next.due;
          empty = here.0;
          grown = omega (arith, more, here.1);
          full = omega (arith, same, here.2);
        })

    list_shift_short_of_memory : (cap : ℕ) (old new : X) → IsStackShiftShortOfMemory states reduces shift_fails g table cap t old new
        → IsShiftShortOfMemory g table cap t (states old) (room old) (states new) (room new)
    list_shift_short_of_memory cap old new h =
        let here = shift_full h.settled new h.of_rest in
        let more = grows_by room grows old h.settles.of_states.prods h.settled h.settles.by in
        let same : length (states new) ≡ length (states h.settled) = ap (λ (st : List ℕ). length st) h.stays in
        let P : List ℕ → Type 0 = λ st. IsShiftShortOfMemory g table cap t (states old) (room old) st (room new) in
        subst P (sym h.stays) (record {
          count = h.count;
          settled = h.settles.of_states;
          next = h.next;
          due = h.due;
          grown = omega (arith, more, here.0);
          full = omega (arith, same, here.1);
        })

    -- so does one for a list that is fed
    pub list_feed_short_of_memory : (cap : ℕ) (old new : X)
        → IsStackShortOfMemory states reduces fails g table t old new ⊎ IsStackShiftShortOfMemory states reduces shift_fails g table cap t old new
        → IsShortOfMemory g table t (states old) (room old) (states new) (room new)
        ⊎ IsShiftShortOfMemory g table cap t (states old) (room old) (states new) (room new)
    list_feed_short_of_memory cap old new (inl h) = inl (list_short_of_memory old new h)
    list_feed_short_of_memory cap old new (inr h) = inr (list_shift_short_of_memory cap old new h)
