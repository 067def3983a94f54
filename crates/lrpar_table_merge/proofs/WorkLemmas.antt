-- How often states can still be worked on.
use Rattle.std.proofs.Common.{◌≡◌, ◌<◌, ◌≤◌, ◌+◌, ◌*◌, ◌-◌, ◌||◌, ◌∙◌, refl, sym, ap, subst, inl, inr, arith, ℕ, Bool, true, false, List, [], ◌∷◌, ◌++◌, get_or, length, map, set, sum_by}
use Rattle.std.specs.Bool.{OnFalse, OnTrue}
use Rattle.std.proofs.Math.Nat.{add-mul, one-mul}
use Rattle.std.proofs.lemmas.Bool.{OnFalse_at, OnFalse_from, cases_eq, cases_lt}
use Rattle.std.proofs.lemmas.List.{get_or_default, get_or-set_other, get_or-set_same, length-set, length_push}
use Rattle.std.proofs.lemmas.List.Sums.{sum_by-set, sum_by_push}
use Rattle.lrpar_grammar.specs.Grammar.{Grammar}
use Rattle.lrpar_table_items.specs.CoreOrder.{IsKernel}
use Rattle.lrpar_table_items.specs.Cores.{core_set}
use Rattle.lrpar_table_merge.specs.Merging.{EndsTurn, NoneWaits, most_missing, waiting, work_left, work_of}
use Rattle.lrpar_table_merge.specs.declared.merge.MergedState.{MergedState}
use Rattle.lrpar_table_merge.proofs.BoundLemmas.{missing_within}

-- a state that doesn't wait can be worked on once less
pub waiting_least : (waits : Bool) → waiting waits ≤ 1
waiting_least true = omega arith
waiting_least false = omega arith

module _ {S : Type 0} (index : S → ℕ) (g : Grammar) (max : ℕ) (before after : List (MergedState S)) where
  abbrev each : ℕ
  each = 2 * most_missing g + 1

  -- a state is changed
  module _ (s : ℕ) (state d : MergedState S) (is : after ≡ set before s state) (low : s < length before) where
    others : (max - length after) * each ≡ (max - length before) * each
    others = ap (λ n. (max - n) * each) (ap length is ∙ length-set before s state)

    sums : sum_by (work_of index) after + work_of index (get_or before s d)
        ≡ sum_by (work_of index) before + work_of index state
    sums =
        ap (λ states. sum_by (work_of index) states + work_of index (get_or before s d)) is
        ∙ sum_by-set (work_of index) before s state d low

    pub work_set : work_of index state ≤ work_of index (get_or before s d) → work_left index g max after ≤ work_left index g max before
    work_set less = omega (arith, others, sums, less)

    pub work_set_less : work_of index state < work_of index (get_or before s d) → work_left index g max after < work_left index g max before
    work_set_less less = omega (arith, others, sums, less)

  -- a state is added
  pub work_push : (state : MergedState S) → after ≡ before ++ state ∷ [] → length before < max
      → IsKernel g (map (core_set index) state.kernel.items) → work_left index g max after ≤ work_left index g max before
  work_push state is room kernel =
      let len = ap length is ∙ length_push before state in
      let left = max - length after in
      let one : max - length before ≡ left + 1 = omega (arith, len, room) in
      let more : (max - length before) * each ≡ left * each + each =
      ap (λ n. n * each) one ∙ add-mul left 1 each ∙ ap (λ n. left * each + n) (one-mul each) in
      let sums = ap (sum_by (work_of index)) is ∙ sum_by_push (work_of index) before state in
      let few = missing_within g (map (core_set index) state.kernel.items) kernel in
      let least = waiting_least state.waits in omega (arith, more, sums, few, least)

  -- a state doesn't wait any more
  module _ (n : ℕ) (state : MergedState S) (low : n < length before) (is : state ≡ get_or before n state) (old : MergedState S)
      (value : old ≡ get_or before n old)
      (set_to : after ≡ set before n (record { kernel = old.kernel; transitions = old.transitions; waits = false })) where
    abbrev rested : MergedState S
    rested = record { kernel = old.kernel; transitions = old.transitions; waits = false }

    same_state : old ≡ state
    same_state = value ∙ get_or_default before n old state low ∙ sym is

    turn_by : (waited : Bool) → state.waits ≡ waited → EndsTurn index g max n before after waited
    turn_by true waits =
        let held : waiting old.waits ≡ 1 = ap (λ (x : MergedState S). waiting x.waits) same_state ∙ ap waiting waits in
        let own = ap (work_of index) value in (work_set_less n rested old set_to low (omega (arith, held, own)), tt)
    turn_by false waits =
        let own = ap (work_of index) value in (
          tt,
          (
            work_set n rested old set_to low (omega (arith, own)),
            λ s d h.
                elim (cases_eq s n) [
                  | inl here ↦
                      let at = get_or-set_same before n rested d low in
                      ap (λ (xs : List (MergedState S)). (get_or xs s d).waits) set_to
                      ∙ ap (λ k. (get_or (set before n rested) k d).waits) here ∙ ap (λ (x : MergedState S). x.waits) at
                  | inr other ↦
                      ap (λ (xs : List (MergedState S)). (get_or xs s d).waits) set_to
                      ∙ ap (λ (x : MergedState S). x.waits) (get_or-set_other before n s rested d other)
                      ∙ elim h as (λ _. (get_or before s d).waits ≡ false) [
                        | inl rests ↦ rests
                        | inr here ↦ absurd (other here)
                      ]
                ],
          ),
        )

    pub turn_ends : EndsTurn index g max n before after state.waits
    turn_ends = turn_by state.waits refl

-- a pass over the first n states: if any waited, less work is left than at first; otherwise none of them waits
pub record IsPassTo {S : Type 0} (index : S → ℕ) (g : Grammar) (max : ℕ) (first now : List (MergedState S)) (n : ℕ) (waited : Bool) : Type 0 where
  pub work : work_left index g max now ≤ work_left index g max first
  pub less : OnTrue waited (work_left index g max now < work_left index g max first)
  pub rest : OnFalse waited ((s : ℕ) (d : MergedState S) → s < n → (get_or now s d).waits ≡ false)

module _ {S : Type 0} (index : S → ℕ) (g : Grammar) (max : ℕ) (first : List (MergedState S)) where
  pub pass_none : IsPassTo index g max first first 0 false
  pass_none = record { work = omega arith; less = tt; rest = λ s d low. absurd (omega (arith, low)) }

  -- one more state
  module _ (before after : List (MergedState S)) (n : ℕ) where
    pass_by : (was worked : Bool) → IsPassTo index g max first before n was → EndsTurn index g max n before after worked
        → IsPassTo index g max first after (n + 1) (was || worked)
    pass_by true true so_far turn =
        let work = so_far.work in
        let less = turn.0 in record { work = omega (arith, work, less); less = omega (arith, work, less); rest = tt }
    pass_by false true so_far turn =
        let work = so_far.work in
        let less = turn.0 in record { work = omega (arith, work, less); less = omega (arith, work, less); rest = tt }
    pass_by true false so_far turn =
        let work = so_far.less in
        let less = turn.1.0 in record { work = omega (arith, work, less); less = omega (arith, work, less); rest = tt }
    pass_by false false so_far turn =
        let work = so_far.work in
        let less = turn.1.0 in record {
          work = omega (arith, work, less);
          less = tt;
          rest = λ s d low.
              turn.1.1 s d (elim (cases_lt s n) [
                | inl earlier ↦ inl (so_far.rest s d earlier)
                | inr last ↦ inr (omega (arith, low, last))
              ]);
        }

    pub pass_more : (was worked waited : Bool) → (was || worked) ≡ waited → IsPassTo index g max first before n was
        → EndsTurn index g max n before after worked → IsPassTo index g max first after (n + 1) waited
    pass_more was worked waited same so_far turn = subst (IsPassTo index g max first after (n + 1)) same (pass_by was worked so_far turn)

  -- after all states, none waits, or less work is left
  pub pass_ends : (now : List (MergedState S)) (n : ℕ) (waited : Bool) → length now ≤ n → IsPassTo index g max first now n waited
      → OnFalse waited (NoneWaits now)
  pass_ends now n waited long pass =
      OnFalse_from waited (NoneWaits now) (λ fell k d low. OnFalse_at fell pass.rest k d (omega (arith, long, low)))
