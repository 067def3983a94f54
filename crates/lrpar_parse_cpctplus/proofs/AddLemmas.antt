-- How the steps that are tried in a round are listed: for each cost, for each configuration at the distance that makes the round's cost
-- with it, the Inserts, by tokens, and the Delete.
use Rattle.std.proofs.Common.{◌≡◌, ◌≢◌, ◌<◌, ◌≤◌, ◌+◌, ◌-◌, ◌∙◌, ◌↔◌, ◌⊎◌, inl, inr, ℕ, List, [], ◌∷◌, ◌++◌, length, get_or, map, slice_get, take, Some, refl, sym, subst, ap, arith}
use Rattle.std.specs.List.{Contains, zip}
use Rattle.std.specs.List.Sorted.{IsStrictlyIncreasing}
use Rattle.std.specs.Map.{keys_of}
use Rattle.std.proofs.lemmas.Bool.{cases_lt}
use Rattle.std.proofs.lemmas.List.{get_or_past, take_all}
use Rattle.std.proofs.lemmas.List.Elements.{All-get_or, Contains-get_or}
use Rattle.std.proofs.lemmas.List.Kept.{AllPairs-from_increasing}
use Rattle.std.proofs.lemmas.Option.{get_or_from_slice_get, slice_get_within}
use Rattle.lrpar_grammar.specs.Grammar.{end_token}
use Rattle.lrpar_grammar_places.specs.declared.span.TIdx.{TIdx}
use Rattle.lrpar_table_rows.specs.PlainRows.{action_entry}
use Rattle.lrpar_table_rows.specs.Table.{Table, TableAction, Fails, IsClosed, action_of, actions_at, states_len}
use Rattle.lrpar_table_rows.specs.declared.rows.Action.{Action}
use Rattle.lrpar_table_rows.proofs.EntryLemmas.{action_cases, keys_of-pairs}
use Rattle.lrpar_table_rows.proofs.ItemLemmas.{Contains-image, Contains-preimage}
use Rattle.lrpar_table_rows.specs.PlainRows.{plain_action}
use Rattle.lrpar_table_stacks.specs.Reduction.{top_action}
use Rattle.lrpar_table_stacks.specs.Stack.{IsStack, top_of}
use Rattle.lrpar_table_stacks.proofs.SettleLemmas.{stack_states}
use Rattle.lrpar_parse_repair.specs.Asked.{Asked}
use Rattle.lrpar_parse_repair.specs.Sequences.{PlainStep, PlainInsert, PlainDelete, PlainShift}
use Rattle.lrpar_parse_cpctplus.specs.Configurations.{Configured, edge_cost}
use Rattle.lrpar_parse_cpctplus.specs.Costs.{token_cost}
use Rattle.lrpar_parse_cpctplus.specs.Levels.{first_of}
use Rattle.lrpar_parse_cpctplus.specs.SearchRound.{PlainAttempt, Adds, AreOnce, AreWeights, IsAttemptBy, IsAttemptOf, IsAttemptWithin, IsDeleteOf, IsInsertOf, IsTried}
use Rattle.lrpar_parse_cpctplus.proofs.AttemptLemmas.{attempt_weight}
use Rattle.lrpar_parse_cpctplus.proofs.GrowLemmas.{one_at}
use Rattle.lrpar_parse_cpctplus.proofs.NumberLemmas.{adds_both, adds_none, adds_one, adds_same, at_contained, contains_at, contains_none, single, take_before, take_cases, take_once, take_this}

-- the top of a stack is a state of the table
pub top_known : (table : Table) → IsClosed table → (st : List ℕ) (s : ℕ) → IsStack table st → top_of st ≡ Some s → s < states_len table
top_known table closed st s stack top =
    let below = slice_get_within st (length st - 1) s top in
    let within = All-get_or (λ (x : ℕ). x < states_len table) st (length st - 1) s below (stack_states table closed st stack) in
    subst (λ (x : ℕ). x < states_len table) (get_or_from_slice_get st (length st - 1) s s top) within

abbrev pub attempt_with : ℕ → PlainStep → PlainAttempt
attempt_with from step = record { from = from; step = step }

same_attempt : (x : PlainAttempt) (from : ℕ) (step : PlainStep) → x.from ≡ from → x.step ≡ step → attempt_with from step ≡ x
same_attempt x from step p q = ap (λ (n : ℕ). attempt_with n step) (sym p) ∙ ap (λ (s : PlainStep). attempt_with x.from s) (sym q)

-- numbers that ascend are different
pub once_ascending : (xs : List ℕ) → IsStrictlyIncreasing xs → AreOnce xs
once_ascending xs up i j x a b =
    let i_in = slice_get_within xs i x a in
    let j_in = slice_get_within xs j x b in
    let one = get_or_from_slice_get xs i x x a in
    let other = get_or_from_slice_get xs j x x b in
    elim (cases_lt i j) as (λ _. i ≡ j) [
      | inl below ↦ let less = AllPairs-from_increasing xs up i j x below j_in in absurd (omega (arith, less, one, other))
      | inr past ↦ elim (cases_lt j i) as (λ _. i ≡ j) [
        | inl above ↦ let less = AllPairs-from_increasing xs up j i x above i_in in absurd (omega (arith, less, one, other))
        | inr same ↦ omega (arith, past, same)
      ]
    ]

-- what tokens cost: 1, and what is listed
pub weights_are : (costs weights : List ℕ) → AreOnce weights → Contains weights 1 → ((w : ℕ) → Contains costs w → Contains weights w) → AreWeights costs weights
weights_are costs weights once one all = record {
  some = λ t.
      elim (cases_lt t (length costs)) as (λ _. Contains weights (token_cost costs t)) [
        | inl below ↦ all (token_cost costs t) (Contains-get_or costs t 1 below)
        | inr past ↦ subst (Contains weights) (sym (get_or_past costs t 1 past)) one
      ];
  once = once;
}

-- the tokens of a row are those with an action
pub tokens_read : {S : Type 0} (index : S → ℕ) (table : Table) (s : ℕ) (ts : List (TIdx S)) (actions : List (Action S)) → length actions ≡ length ts
    → map (action_entry index) (zip ts actions) ≡ actions_at table s
    → ((t : ℕ) (action : TableAction) → Contains (actions_at table s) (t, action) ↔ ((action_of table s t ≡ action) × (action ≢ Fails)))
    → (t : ℕ) → Contains (map (λ x. index x.0) ts) t ↔ (action_of table s t ≢ Fails)
tokens_read index table s ts actions paired are exact t =
    let keys = sym (keys_of-pairs (λ x. index x.0) (plain_action index) ts actions paired) ∙ ap keys_of are in (
      (λ h.
          let there = subst (λ (l : List ℕ). Contains l t) keys h in
          let entry = Contains-preimage (λ (e : ℕ × TableAction). e.0) (actions_at table s) t there in
          let at = subst (λ (u : ℕ). Contains (actions_at table s) (u, entry.0.1)) entry.2 entry.1 in
          let is = (exact t entry.0.1).0 at in
          λ fails. is.1 (sym is.0 ∙ fails)),
      (λ some.
          elim (action_cases table s t) as (λ _. Contains (map (λ x. index x.0) ts) t) [
            | inl none ↦ absurd (some none)
            | inr stored ↦
                let there = Contains-image (λ (e : ℕ × TableAction). e.0) (actions_at table s) (t, stored.0) stored.1 in
                subst (λ (l : List ℕ). Contains l t) (sym keys) there
          ]),
    )

-- the Inserts, by tokens
module _ (costs : List ℕ) (end from weight : ℕ) where
  abbrev Inserted : List ℕ → PlainAttempt → Type 0
  Inserted tokens = IsInsertOf costs end tokens from weight

  -- one of them
  only : (t u : ℕ) → Contains (t ∷ []) u → t ≡ u
  only t u h = let there = at_contained (t ∷ []) u h in (single t u there.0 there.1).1

  pub insert_none : (t : ℕ) (xs : List PlainAttempt) → ¬ ((t < end) × (token_cost costs t ≡ weight)) → Adds (Inserted (t ∷ [])) xs xs
  insert_none t xs not =
      adds_none (Inserted (t ∷ [])) xs (λ x h.
      not (subst (λ (u : ℕ). (u < end) × (token_cost costs u ≡ weight)) (sym (only t h.1.0 h.1.2)) (h.1.3, h.1.4)))

  pub insert_one : (t : ℕ) (xs : List PlainAttempt) → t < end → token_cost costs t ≡ weight
      → Adds (Inserted (t ∷ [])) xs (xs ++ attempt_with from (PlainInsert t) ∷ [])
  insert_one t xs low priced =
      adds_one (Inserted (t ∷ [])) xs (attempt_with from (PlainInsert t)) (refl, (t, refl, contains_at (t ∷ []) 0 t refl, low, priced))
      (λ y h. same_attempt y from (PlainInsert t) h.0 (h.1.1 ∙ ap (λ (u : ℕ). PlainInsert u) (sym (only t h.1.0 h.1.2))))

  module _ (tokens : List ℕ) where
    pub inserts_begin : (xs : List PlainAttempt) → Adds (Inserted (take 0 tokens)) xs xs
    inserts_begin xs = adds_none (Inserted (take 0 tokens)) xs (λ x h. contains_none h.1.0 h.1.2)

    pub inserts_more : (k t : ℕ) (xs ys zs : List PlainAttempt) → AreOnce tokens → k < length tokens → t ≡ get_or tokens k t
        → Adds (Inserted (take k tokens)) xs ys → Adds (Inserted (t ∷ [])) ys zs → Adds (Inserted (take (k + 1) tokens)) xs zs
    inserts_more k t xs ys zs once below is so_far own =
        let apart : (x : PlainAttempt) → Inserted (take k tokens) x → ¬ (Inserted (t ∷ []) x) = λ x a b.
        let same : PlainInsert a.1.0 ≡ PlainInsert b.1.0 = sym a.1.1 ∙ b.1.1 in
        let one : a.1.0 ≡ b.1.0 = cc in
        take_once tokens k t once below is (subst (Contains (take k tokens)) (one ∙ sym (only t b.1.0 b.1.2)) a.1.2) in
        adds_same (λ x. Inserted (take k tokens) x ⊎ Inserted (t ∷ []) x) (Inserted (take (k + 1) tokens)) xs zs
        (λ x h.
        elim h as (λ _. Inserted (take (k + 1) tokens) x) [
          | inl a ↦ (a.0, (a.1.0, a.1.1, take_before tokens k t a.1.0 below a.1.2, a.1.3, a.1.4))
          | inr b ↦
              let here = subst (Contains (take (k + 1) tokens)) (only t b.1.0 b.1.2) (take_this tokens k t below is) in
              (b.0, (b.1.0, b.1.1, here, b.1.3, b.1.4))
        ])
        (λ x h.
        elim (take_cases tokens k t h.1.0 below is h.1.2) as (λ _. Inserted (take k tokens) x ⊎ Inserted (t ∷ []) x) [
          | inl before ↦ inl (h.0, (h.1.0, h.1.1, before, h.1.3, h.1.4))
          | inr same ↦ inr (h.0, (h.1.0, h.1.1, subst (Contains (t ∷ [])) same (contains_at (t ∷ []) 0 t refl), h.1.3, h.1.4))
        ])
        (adds_both (Inserted (take k tokens)) (Inserted (t ∷ [])) xs ys zs so_far own apart)

    pub inserts_end : (n : ℕ) (xs ys : List PlainAttempt) → length tokens ≤ n → Adds (Inserted (take n tokens)) xs ys → Adds (Inserted tokens) xs ys
    inserts_end n xs ys past h = subst (λ (l : List ℕ). Adds (Inserted l) xs ys) (take_all n tokens past) h

module _ {X : Type 0} (token : X → ℕ) (costs : List ℕ) (at : Asked X) where
  -- the Delete
  pub delete_none : (place from weight : ℕ) (xs : List PlainAttempt) → ((x : PlainAttempt) → ¬ (IsDeleteOf token costs at place from weight x))
      → Adds (IsDeleteOf token costs at place from weight) xs xs
  delete_none place from weight xs none = adds_none (IsDeleteOf token costs at place from weight) xs none

  -- the steps from one configuration
  module _ (u : Configured) (from weight : ℕ) (tokens : List ℕ)
      (exact : (t : ℕ) → Contains tokens t ↔ (top_action at.checked.table t u.stack ≢ Fails)) where
    abbrev Inserts : PlainAttempt → Type 0
    Inserts = IsInsertOf costs (end_token at.checked.grammar) tokens from weight

    abbrev Deletes : PlainAttempt → Type 0
    Deletes = IsDeleteOf token costs at u.place from weight

    of_both : (x : PlainAttempt) → Inserts x ⊎ Deletes x → IsAttemptOf token costs at u from weight x
    of_both x h = elim h as (λ _. IsAttemptOf token costs at u from weight x) [
      | inl a ↦ (
        a.0,
        subst (IsTried token at u) (sym a.1.1) (a.1.3, (exact a.1.0).0 a.1.2),
        subst (λ (s : PlainStep). edge_cost token costs at u s ≡ weight) (sym a.1.1) a.1.4,
      )
      | inr b ↦ (
        b.0,
        subst (IsTried token at u) (sym b.1) b.2,
        subst (λ (s : PlainStep). edge_cost token costs at u s ≡ weight) (sym b.1) b.3,
      )
    ]

    by_step : (number : ℕ) (step : PlainStep) → IsAttemptOf token costs at u from weight (attempt_with number step)
        → Inserts (attempt_with number step) ⊎ Deletes (attempt_with number step)
    by_step number (PlainInsert t) h = inl (h.0, (t, refl, (exact t).1 h.1.1, h.1.0, h.2))
    by_step number PlainDelete h = inr (h.0, refl, h.1, h.2)
    by_step number PlainShift h = absurd h.1

    apart : (x : PlainAttempt) → Inserts x → ¬ (Deletes x)
    apart x a b = let e : PlainInsert a.1.0 ≡ PlainDelete = sym a.1.1 ∙ b.1 in cc

    pub attempts_of : (xs ys zs : List PlainAttempt) → Adds Inserts xs ys → Adds Deletes ys zs → Adds (IsAttemptOf token costs at u from weight) xs zs
    attempts_of xs ys zs inserts deletes =
        adds_same (λ x. Inserts x ⊎ Deletes x) (IsAttemptOf token costs at u from weight) xs zs of_both (λ x h. by_step x.from x.step h)
        (adds_both Inserts Deletes xs ys zs inserts deletes apart)

  -- those from the configurations with numbers in a range
  module _ (nodes : List Configured) (first weight : ℕ) where
    pub range_begins : (xs : List PlainAttempt) → Adds (IsAttemptWithin token costs at nodes first first weight) xs xs
    range_begins xs = adds_none (IsAttemptWithin token costs at nodes first first weight) xs (λ x h. omega (arith, h.0, h.1))

    pub range_more : (k : ℕ) (u : Configured) (xs ys zs : List PlainAttempt) → first ≤ k → slice_get nodes k ≡ Some u
        → Adds (IsAttemptWithin token costs at nodes first k weight) xs ys → Adds (IsAttemptOf token costs at u k weight) ys zs
        → Adds (IsAttemptWithin token costs at nodes first (k + 1) weight) xs zs
    range_more k u xs ys zs low is so_far own =
        adds_same (λ x. IsAttemptWithin token costs at nodes first k weight x ⊎ IsAttemptOf token costs at u k weight x)
        (IsAttemptWithin token costs at nodes first (k + 1) weight) xs zs
        (λ x h.
        elim h as (λ _. IsAttemptWithin token costs at nodes first (k + 1) weight x) [
          | inl a ↦ (a.0, omega (arith, a.1), a.2)
          | inr b ↦
              let there = subst (λ (n : ℕ). slice_get nodes n ≡ Some u) (sym b.0) is in
              (omega (arith, b.0, low), omega (arith, b.0), (u, there, b.1, b.2))
        ])
        (λ x h.
        elim (cases_lt x.from k) as (λ _. IsAttemptWithin token costs at nodes first k weight x ⊎ IsAttemptOf token costs at u k weight x) [
          | inl below ↦ inl (h.0, below, h.2)
          | inr past ↦
              let same : x.from ≡ k = omega (arith, past, h.1) in
              let here = subst (λ (n : ℕ). slice_get nodes n ≡ Some h.2.0) same h.2.1 in
              let tail = one_at nodes k h.2.0 u here is in
              inr (
                same,
                subst (λ (w : Configured). IsTried token at w x.step) tail h.2.2,
                subst (λ (w : Configured). edge_cost token costs at w x.step ≡ weight) tail h.2.3,
              )
        ])
        (adds_both (IsAttemptWithin token costs at nodes first k weight) (IsAttemptOf token costs at u k weight) xs ys zs so_far own
        (λ x a b. omega (arith, a.1, b.0)))

  -- those of one cost
  module _ (nodes : List Configured) (firsts : List ℕ) (c : ℕ) where
    pub weight_past : (weight : ℕ) (xs : List PlainAttempt) → c < weight → Adds (IsAttemptBy token costs at nodes firsts c weight) xs xs
    weight_past weight xs over =
        adds_none (IsAttemptBy token costs at nodes firsts c weight) xs (λ x h. omega (arith, h.1, over))

    pub weight_range : (weight d next : ℕ) (xs ys : List PlainAttempt) → d + weight ≡ c → next ≡ first_of firsts (length nodes) (d + 1)
        → Adds (IsAttemptWithin token costs at nodes (first_of firsts (length nodes) d) next weight) xs ys
        → Adds (IsAttemptBy token costs at nodes firsts c weight) xs ys
    weight_range weight d next xs ys sum is adds =
        let low = first_of firsts (length nodes) d in
        adds_same (IsAttemptWithin token costs at nodes low next weight) (IsAttemptBy token costs at nodes firsts c weight) xs ys
        (λ x h. (d, sum, subst (λ (n : ℕ). IsAttemptWithin token costs at nodes low n weight x) is h))
        (λ x h.
        let same : h.0 ≡ d = omega (arith, h.1, sum) in
        let here = subst (λ (e : ℕ). IsAttemptWithin token costs at nodes (first_of firsts (length nodes) e) (first_of firsts (length nodes) (e + 1)) weight x) same h.2 in
        subst (λ (n : ℕ). IsAttemptWithin token costs at nodes low n weight x) (sym is) here)
        adds

    -- those of the first costs
    abbrev pub IsAttemptFor : List ℕ → PlainAttempt → Type 0
    IsAttemptFor weights x = (weight : ℕ) × Contains weights weight × IsAttemptBy token costs at nodes firsts c weight x

    pub weights_begin : (weights : List ℕ) (xs : List PlainAttempt) → Adds (IsAttemptFor (take 0 weights)) xs xs
    weights_begin weights xs = adds_none (IsAttemptFor (take 0 weights)) xs (λ x h. contains_none h.0 h.1)

    pub weights_more : (weights : List ℕ) (k weight : ℕ) (xs ys zs : List PlainAttempt) → AreOnce weights → k < length weights
        → weight ≡ get_or weights k weight → Adds (IsAttemptFor (take k weights)) xs ys → Adds (IsAttemptBy token costs at nodes firsts c weight) ys zs
        → Adds (IsAttemptFor (take (k + 1) weights)) xs zs
    weights_more weights k weight xs ys zs once below is so_far own =
        adds_same (λ x. IsAttemptFor (take k weights) x ⊎ IsAttemptBy token costs at nodes firsts c weight x) (IsAttemptFor (take (k + 1) weights)) xs zs
        (λ x h.
        elim h as (λ _. IsAttemptFor (take (k + 1) weights) x) [
          | inl a ↦ (a.0, take_before weights k weight a.0 below a.1, a.2)
          | inr b ↦ (weight, take_this weights k weight below is, b)
        ])
        (λ x h.
        elim (take_cases weights k weight h.0 below is h.1) as (λ _. IsAttemptFor (take k weights) x ⊎ IsAttemptBy token costs at nodes firsts c weight x) [
          | inl before ↦ inl (h.0, before, h.2)
          | inr same ↦ inr (subst (λ (w : ℕ). IsAttemptBy token costs at nodes firsts c w x) (sym same) h.2)
        ])
        (adds_both (IsAttemptFor (take k weights)) (IsAttemptBy token costs at nodes firsts c weight) xs ys zs so_far own
        (λ x a b.
        let same = attempt_weight token costs at nodes firsts c a.0 weight x a.2 b in
        take_once weights k weight once below is (subst (Contains (take k weights)) same a.1)))

    pub weights_end : (weights : List ℕ) (n : ℕ) (xs ys : List PlainAttempt) → length weights ≤ n → Adds (IsAttemptFor (take n weights)) xs ys
        → Adds (IsAttemptFor weights) xs ys
    weights_end weights n xs ys past h = subst (λ (l : List ℕ). Adds (IsAttemptFor l) xs ys) (take_all n weights past) h
