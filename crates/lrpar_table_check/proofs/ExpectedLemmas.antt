-- What may come next at a stack depends on what it does once it is settled. It is listed token by token, by the entries of the
-- top state.
use Rattle.std.proofs.Common.{◌≡◌, ◌≢◌, ◌<◌, ◌≤◌, ◌+◌, ◌-◌, ◌↔◌, ◌⊎◌, ◌∙◌, inl, inr, refl, sym, ap, subst, arith, ℕ, List, [], ◌∷◌, ◌++◌, length, map, get_or, slice_index, slice_index_or, take, All, Contains, Some}
use Rattle.std.proofs.lemmas.Bool.{cases_lt}
use Rattle.std.proofs.lemmas.List.{append-nil, take_all, get_or-map, get_or_append_left, get_or_default, get_or_push, length-map, length_push}
use Rattle.std.proofs.lemmas.List.Elements.{All-map, Contains-append_left, Contains-push, Contains-push_cases}
use Rattle.std.proofs.lemmas.List.Kept.{AllPairs-from_increasing}
use Rattle.std.proofs.lemmas.Option.{get_or_from_slice_get, slice_get_within}
use Rattle.std.specs.List.{zip}
use Rattle.std.specs.List.Sorted.{IsStrictlyIncreasing}
use Rattle.std.specs.Map.{keys_of}
use Rattle.lrpar_grammar.specs.Grammar.{Grammar}
use Rattle.lrpar_table_rows.proofs.EntryLemmas.{keys_of-pairs}
use Rattle.lrpar_table_rows.proofs.ItemLemmas.{Contains-image}
use Rattle.lrpar_table_rows.specs.Table.{IsActionEntry, Table, TableAction, ShiftTo, ReduceBy, Accepts, Fails, IsClosed, action_of, states_len}
use Rattle.lrpar_table_stacks.specs.Expected.{IsExpected, laid_over}
use Rattle.lrpar_table_stacks.specs.Overlay.{overlaid}
use Rattle.lrpar_table_stacks.specs.Path.{NeverSticks}
use Rattle.lrpar_table_stacks.specs.Reduction.{Settles, top_action}
use Rattle.lrpar_table_stacks.specs.Settled.{IsSettledBy}
use Rattle.lrpar_table_stacks.specs.Stack.{IsStack, top_of}
use Rattle.lrpar_table_stacks.proofs.Reductions.{settles_one_way}
use Rattle.lrpar_table_stacks.proofs.SettleLemmas.{stack_states}
use Rattle.lrpar_table_stacks.proofs.StackLemmas.{stack_has_path}
use Rattle.lrpar_table_stacks.proofs.StepLemmas.{action_by_top}

-- a stack that does something once it is settled does something before
settles_acts : (g : Grammar) (table : Table) (t : ℕ) (st ps after : List ℕ) (a : TableAction) → Settles g table t st ps after
    → top_action table t after ≡ a → a ≢ Fails → top_action table t st ≢ Fails
settles_acts g table t st [] after a settles is some none =
    some (sym is ∙ subst (λ (l : List ℕ). top_action table t l ≡ Fails) settles.0 none)
settles_acts g table t st (p ∷ ps) after a settles is some none = let no : ReduceBy p ≡ Fails = sym settles.1.action ∙ none in cc

-- so the top of a stack has an action at each token that may come next
pub expected_acts : (g : Grammar) (table : Table) (st : List ℕ) (t : ℕ) → IsExpected g table st t → top_action table t st ≢ Fails
expected_acts g table st t (inl fed) =
    let feeds = fed.1.2 in
    settles_acts g table t st fed.1.0 feeds.settled (ShiftTo feeds.next) feeds.settles feeds.shifts (λ no. cc)
expected_acts g table st t (inr ends) =
    let at = ends.1 in
    let settles = subst (λ (u : ℕ). Settles g table u st at.prods at.settled) (sym ends.0) at.settles in
    let accepts = subst (λ (u : ℕ). top_action table u at.settled ≡ Accepts) (sym ends.0) at.action in
    settles_acts g table t st at.prods at.settled Accepts settles accepts (λ no. cc)

module _ (g : Grammar) (table : Table) (cap t : ℕ) (never : NeverSticks g table) (st : List ℕ) (count : ℕ) (after : List ℕ)
    (by : IsSettledBy g table cap t st count after) where
  -- a settled stack whose top shifts the token
  pub shift_expected : (next : ℕ) → top_action table t after ≡ ShiftTo next → IsExpected g table st t
  shift_expected next shifts =
      let path = stack_has_path table after by.stack in
      let along = never.shifts path.0 after t next path.1 shifts in
      inl (along.0, (by.prods, after ++ next ∷ [], record { settled = after; settles = by.settles; next = next; shifts = shifts; pushed = refl }))

  -- or accepts
  pub accept_expected : top_action table t after ≡ Accepts → IsExpected g table st t
  accept_expected accepts =
      let path = stack_has_path table after by.stack in
      let along = never.accepts path.0 after t path.1 accepts in
      inr (
        along.0,
        record {
          prods = by.prods;
          settled = after;
          settles = subst (λ (u : ℕ). Settles g table u st by.prods after) along.0 by.settles;
          action = subst (λ (u : ℕ). top_action table u after ≡ Accepts) along.0 accepts;
        },
      )

  -- a token that may come next is shifted or accepted there
  pub expected_does : IsExpected g table st t → ((next : ℕ) × (top_action table t after ≡ ShiftTo next)) ⊎ (top_action table t after ≡ Accepts)
  expected_does (inl fed) =
      let feeds = fed.1.2 in
      let same = settles_one_way g table t st by.prods fed.1.0 after feeds.settled by.settles feeds.settles in
      inl (feeds.next, subst (λ (l : List ℕ). top_action table t l ≡ ShiftTo feeds.next) (sym same.1) feeds.shifts)
  expected_does (inr ends) =
      let at = ends.1 in
      let settles = subst (λ (u : ℕ). Settles g table u st at.prods at.settled) (sym ends.0) at.settles in
      let accepts = subst (λ (u : ℕ). top_action table u at.settled ≡ Accepts) (sym ends.0) at.action in
      let same = settles_one_way g table t st by.prods at.prods after at.settled by.settles settles in
      inr (subst (λ (l : List ℕ). top_action table t l ≡ Accepts) (sym same.1) accepts)

  pub reduce_unexpected : (p : ℕ) → top_action table t after ≡ ReduceBy p → ¬ (IsExpected g table st t)
  reduce_unexpected p reduces expected =
      elim (expected_does expected) as (λ _. ⊥) [
        | inl shifts ↦ let no : ReduceBy p ≡ ShiftTo shifts.0 = sym reduces ∙ shifts.1 in cc
        | inr accepts ↦ let no : ReduceBy p ≡ Accepts = sym reduces ∙ accepts in cc
      ]

  pub fail_unexpected : top_action table t after ≡ Fails → ¬ (IsExpected g table st t)
  fail_unexpected fails expected =
      elim (expected_does expected) as (λ _. ⊥) [
        | inl shifts ↦ let no : Fails ≡ ShiftTo shifts.0 = sym fails ∙ shifts.1 in cc
        | inr accepts ↦ let no : Fails ≡ Accepts = sym fails ∙ accepts in cc
      ]

-- the top of a stack of a closed table is one of its states
pub top_within : (table : Table) → IsClosed table → (st : List ℕ) (s : ℕ) → IsStack table st → top_of st ≡ Some s → s < states_len table
top_within table closed st s stack top =
    let is : get_or st (length st - 1) s ≡ s = get_or_from_slice_get st (length st - 1) s s top in
    subst (λ (n : ℕ). n < states_len table) is
    (stack_states table closed st stack (length st - 1) s (slice_get_within st (length st - 1) s top))

-- a stack has a state
pub some_state : (table : Table) (st : List ℕ) → IsStack table st → 0 < length st
some_state table [] stack = absurd stack
some_state table (s ∷ st) stack = omega arith

-- what is laid over a stack represents it
pub laid_over_states : (st : List ℕ) (room : ℕ) → overlaid (laid_over st room) ≡ st
laid_over_states st room = append-nil (take (length st) st) ∙ take_all (length st) st (omega arith)

-- a number above all of some that ascend
increasing_push : (xs : List ℕ) (y : ℕ) → IsStrictlyIncreasing xs → ((x : ℕ) → Contains xs x → x < y) → IsStrictlyIncreasing (xs ++ y ∷ [])
increasing_push xs y up above k within =
    let many = length_push xs y in
    let low : slice_index (xs ++ y ∷ []) k ≡ slice_index xs k = get_or_append_left xs (y ∷ []) 0 k (omega (arith, many, within)) in
    elim (cases_lt (k + 1) (length xs)) as (λ _. slice_index (xs ++ y ∷ []) k < slice_index (xs ++ y ∷ []) (k + 1)) [
      | inl inner ↦
          let high : slice_index (xs ++ y ∷ []) (k + 1) ≡ slice_index xs (k + 1) = get_or_append_left xs (y ∷ []) 0 (k + 1) inner in
          omega (arith, low, high, up k inner)
      | inr last ↦
          let high : slice_index (xs ++ y ∷ []) (k + 1) ≡ y = get_or_push xs y 0 (k + 1) (omega (arith, many, within, last)) in
          omega (arith, low, high, above (slice_index xs k) (k, omega (arith, many, within), get_or_default xs k (slice_index xs k) 0 (omega (arith, many, within))))
    ]

-- of the first of some numbers those that have P are listed, ascending
pub record AreListed (P : ℕ → Type 0) (ns : List ℕ) (i : ℕ) (xs : List ℕ) : Type 0 where
  pub ascending : IsStrictlyIncreasing xs
  pub only : (x : ℕ) → Contains xs x → P x × ((k : ℕ) × (k < i) × (slice_index ns k ≡ x))
  pub all : (k : ℕ) → k < i → P (slice_index ns k) → Contains xs (slice_index ns k)

module _ (P : ℕ → Type 0) (ns : List ℕ) (up : IsStrictlyIncreasing ns) where
  pub none_listed : AreListed P ns 0 []
  none_listed = record {
    ascending = λ k within. absurd (omega (arith, within));
    only = λ x there. absurd (omega (arith, there.1));
    all = λ k none. absurd (omega (arith, none));
  }

  module _ (i : ℕ) (below : i < length ns) (xs : List ℕ) (listed : AreListed P ns i xs) (y : ℕ) (is : slice_index ns i ≡ y) where
    -- one more that has it
    pub listed_more : P y → AreListed P ns (i + 1) (xs ++ y ∷ [])
    listed_more has = record {
      ascending =
          increasing_push xs y listed.ascending
          (λ x there.
          let at = (listed.only x there).1 in
          let less = AllPairs-from_increasing ns up at.0 i 0 at.1 below in
          omega (arith, less, at.2, is));
      only = λ x there.
          elim (Contains-push_cases xs y x there) as (λ _. P x × ((k : ℕ) × (k < i + 1) × (slice_index ns k ≡ x))) [
            | inl old ↦ let fact = listed.only x old in (fact.0, (fact.1.0, omega (arith, fact.1.1), fact.1.2))
            | inr new ↦ (subst P new has, (i, omega arith, is ∙ new))
          ];
      all = λ k first holds.
          elim (cases_lt k i) as (λ _. Contains (xs ++ y ∷ []) (slice_index ns k)) [
            | inl old ↦ Contains-append_left xs (y ∷ []) (slice_index ns k) (listed.all k old holds)
            | inr last ↦
                let here : k ≡ i = omega (arith, first, last) in
                let number : y ≡ slice_index ns k = sym (ap (λ (n : ℕ). slice_index ns n) here ∙ is) in
                subst (λ (n : ℕ). Contains (xs ++ y ∷ []) n) number (Contains-push xs y)
          ];
    }

    -- one more that doesn't
    pub listed_no_more : ¬ (P y) → AreListed P ns (i + 1) xs
    listed_no_more lacks = record {
      ascending = listed.ascending;
      only = λ x there. let fact = listed.only x there in (fact.0, (fact.1.0, omega (arith, fact.1.1), fact.1.2));
      all = λ k first holds.
          elim (cases_lt k i) as (λ _. Contains xs (slice_index ns k)) [
            | inl old ↦ listed.all k old holds
            | inr last ↦
                let here : k ≡ i = omega (arith, first, last) in
                absurd (lacks (subst P (ap (λ (n : ℕ). slice_index ns n) here ∙ is) holds))
          ];
    }

  -- in the end they are those that have it, if it holds of no other number
  pub listed_all : (i : ℕ) (xs : List ℕ) → length ns ≤ i → AreListed P ns i xs → ((x : ℕ) → P x → Contains ns x) → (x : ℕ) → Contains xs x ↔ P x
  listed_all i xs past listed within x = (
    λ there. (listed.only x there).0,
    λ holds.
        let at = within x holds in
        let is : slice_index ns at.0 ≡ x = get_or_default ns at.0 0 x at.1 ∙ at.2 in
        subst (λ (n : ℕ). Contains xs n) is (listed.all at.0 (omega (arith, at.1, past)) (subst P (sym is) holds)),
  )

-- the tokens of the entries of a state
module _ {S V : Type 0} (number : S → ℕ) (value : V → TableAction) (table : Table) (s : ℕ) (ts : List S) (actions : List V) (es : List (ℕ × TableAction))
    (paired : length actions ≡ length ts) (are : map (λ e. (number e.0, value e.1)) (zip ts actions) ≡ es) where
  tokens_are : map number ts ≡ keys_of es
  tokens_are = sym (keys_of-pairs number value ts actions paired) ∙ ap (λ (l : List (ℕ × TableAction)). keys_of l) are

  pub tokens_ascend : IsStrictlyIncreasing (keys_of es) → IsStrictlyIncreasing (map number ts)
  tokens_ascend up = subst IsStrictlyIncreasing (sym tokens_are) up

  -- are tokens of the table
  pub token_within : (tokens states : ℕ) → All (IsActionEntry tokens states) es → (i : ℕ) (t : S) → i < length ts → t ≡ slice_index_or ts i t → number t < tokens
  token_within tokens states each i t below read =
      let Low : ℕ → Type 0 = λ k. k < tokens in
      let low : All Low (keys_of es) = All-map Low (λ (e : ℕ × TableAction). e.0) es (λ k d within. (each k d within).token) in
      let numbers : All Low (map number ts) = subst (All Low) (sym tokens_are) low in
      let is : get_or (map number ts) i (number t) ≡ number t = get_or-map number ts i t (number t) below ∙ ap number (sym read) in
      subst Low is (numbers i (number t) (omega (arith, below, length-map ts number)))

  -- and have each at which the state has an action
  pub acts_within : ((t : ℕ) (action : TableAction) → Contains es (t, action) ↔ ((action_of table s t ≡ action) × (action ≢ Fails)))
      → (t : ℕ) → action_of table s t ≢ Fails → Contains (map number ts) t
  acts_within exact t acts =
      let there = (exact t (action_of table s t)).1 (refl, acts) in
      subst (λ (l : List ℕ). Contains l t) (sym tokens_are) (Contains-image (λ (e : ℕ × TableAction). e.0) es (t, action_of table s t) there)

-- a token that may come next at a stack is one at which its top has an action
pub expected_acts_at : (g : Grammar) (table : Table) (st : List ℕ) (s : ℕ) → top_of st ≡ Some s → (t : ℕ) → IsExpected g table st t → action_of table s t ≢ Fails
expected_acts_at g table st s top t expected none = expected_acts g table st t expected (action_by_top table t st s top ∙ none)
