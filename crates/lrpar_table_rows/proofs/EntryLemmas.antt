-- Entries that ascend, and what a look-up finds among them.
use Rattle.std.proofs.Common.{◌≡◌, ◌≢◌, ◌<◌, ◌≤◌, ◌↔◌, ◌⊎◌, ◌∙◌, ℕ, zero, suc, Bool, false, IsTrue, nat_eq, nat_lt, List, [], ◌∷◌, All, Option, Some, None, unwrap_or, length, map, slice_index, slice_index_or, refl, ap, sym, subst, inl, inr, arith}
use Rattle.std.specs.Cmp.{nat_eq_equiv}
use Rattle.std.specs.List.{Contains, IsDistinct, zip}
use Rattle.std.specs.List.Sorted.{IsStrictlyIncreasing}
use Rattle.std.specs.Map.{keys_of, lookup}
use Rattle.std.proofs.lemmas.Bool.{cases_lt, eqb-true, ltb-true, ne_eqb}
use Rattle.std.proofs.lemmas.Bool.Decides.{Decides-ltb}
use Rattle.std.proofs.lemmas.List.{get_or_past}
use Rattle.std.proofs.lemmas.List.Elements.{All-contains, All-map}
use Rattle.std.proofs.lemmas.List.Kept.{AllPairs-from_increasing}
use Rattle.std.proofs.lemmas.Map.Keys.{IsDistinct-from_apart}
use Rattle.std.proofs.lemmas.Map.Made.{keys_of-zip}
use Rattle.std.proofs.lemmas.Map.Views.{Contains-from_lookup, lookup-from_Contains}
use Rattle.lrpar_table_rows.specs.Table.{AreEntries, IsActionEntry, IsActionWithin, IsClosed, IsGotoEntry, IsGotoWithin, IsTable, Table, TableAction, ShiftTo, Fails, action_of, actions_at, goto_of, gotos_at}
use Rattle.lrpar_table_rows.proofs.Mapped.{All-unmap}
use Rattle.lrpar_table_rows.proofs.ItemLemmas.{Contains-image}

-- numbers that ascend are distinct
pub distinct_numbers : (ks : List ℕ) → IsStrictlyIncreasing ks → IsDistinct nat_eq ks
distinct_numbers ks up =
    IsDistinct-from_apart nat_eq ks
    (λ i j d before below.
    let less = AllPairs-from_increasing ks up i j d before below in
    ne_eqb (slice_index_or ks i d) (slice_index_or ks j d) (λ same. omega (arith, less, same)))

-- an entry is there exactly if the look-up finds it
pub entry_found : {X : Type 0} (es : List (ℕ × X)) (k : ℕ) (x : X) → IsStrictlyIncreasing (keys_of es)
    → Contains es (k, x) ↔ (lookup (nat_eq k) es ≡ Some x)
entry_found es k x up = (
  lookup-from_Contains nat_eq_equiv k x es (distinct_numbers (keys_of es) up),
  Contains-from_lookup eqb-true k x es,
)

-- a look-up finds nothing, or an entry
pub lookup_cases : {X : Type 0} (es : List (ℕ × X)) (k : ℕ) → (lookup (nat_eq k) es ≡ None) ⊎ ((x : X) × (lookup (nat_eq k) es ≡ Some x))
lookup_cases {X} es k =
    let cases : (o : Option X) → (o ≡ None) ⊎ ((x : X) × (o ≡ Some x)) = λ o.
    elim o as (λ v. (v ≡ None) ⊎ ((x : X) × (v ≡ Some x))) [ None ↦ inl refl | Some x ↦ inr (x, refl) ] in
    cases (lookup (nat_eq k) es)

-- the keys of an image that has the numbers of the keys
pub keys_of-map : {K V X : Type 0} (number : K → ℕ) (value : V → X) (es : List (K × V))
    → keys_of (map (λ e. (number e.0, value e.1)) es) ≡ map (λ e. number e.0) es
keys_of-map number value [] = refl
keys_of-map number value (e ∷ es) = ap (λ ks. number e.0 ∷ ks) (keys_of-map number value es)

-- the numbers of the keys
map-keys : {K V : Type 0} (number : K → ℕ) (es : List (K × V)) → map (λ e. number e.0) es ≡ map number (keys_of es)
map-keys number [] = refl
map-keys number (e ∷ es) = ap (λ ks. number e.0 ∷ ks) (map-keys number es)

-- the keys of two lists side by side, in which each key has a value
pub keys_of-pairs : {K V X : Type 0} (number : K → ℕ) (value : V → X) (ks : List K) (vs : List V) → length vs ≡ length ks
    → keys_of (map (λ e. (number e.0, value e.1)) (zip ks vs)) ≡ map number ks
keys_of-pairs number value ks vs paired =
    keys_of-map number value (zip ks vs) ∙ map-keys number (zip ks vs) ∙ ap (map number) (keys_of-zip ks vs paired)

-- pairs of the same parts are the same
same_pair : {K X : Type 0} (j k : K) (w v : X) → j ≡ k → w ≡ v → ◌≡◌ {A = K × X} (j, w) (k, v)
same_pair j k w v key value = cc

-- the number of a key and its value are one of the pairs
pub pair_at : {K V X : Type 0} (number : K → ℕ) (value : V → X) (ks : List K) (vs : List V) (i k : ℕ) (v : V) → length vs ≡ length ks
    → i < length ks → slice_index (map number ks) i ≡ k → v ≡ slice_index_or vs i v
    → Contains {X = ℕ × X} (map (λ e. (number e.0, value e.1)) (zip ks vs)) (k, value v)
pair_at number value [] vs i k v paired below key is = absurd (omega (arith, below))
pair_at number value (j ∷ ks) [] i k v paired below key is = absurd (omega (arith, paired))
pair_at number value (j ∷ ks) (w ∷ vs) zero k v paired below key is = (0, omega arith, same_pair (number j) k (value w) (value v) key (ap value (sym is)))
pair_at number value (j ∷ ks) (w ∷ vs) (suc i) k v paired below key is =
    let more = pair_at number value ks vs i k v (omega (arith, paired)) (omega (arith, below)) key is in
    (suc more.0, omega (arith, more.1), more.2)

-- keys with their values, which are the entries
module _ {K V X : Type 0} (number : K → ℕ) (value : V → X) (ks : List K) (vs : List V) (es : List (ℕ × X)) (paired : length vs ≡ length ks)
    (is : map (λ e. (number e.0, value e.1)) (zip ks vs) ≡ es) where
  -- their keys are those of the entries
  keys_are : map number ks ≡ keys_of es
  keys_are = sym (keys_of-pairs number value ks vs paired) ∙ ap keys_of is

  -- if the keys of the entries ascend, so do these keys
  pub keys_ascend : IsStrictlyIncreasing (keys_of es) → IsStrictlyIncreasing (map number ks)
  keys_ascend up = subst IsStrictlyIncreasing (sym keys_are) up

  -- a key that was found and its value are one of the entries
  pub read_entry : (i k : ℕ) (v : V) → i < length ks → slice_index (map number ks) i ≡ k → v ≡ slice_index_or vs i v → Contains es (k, value v)
  read_entry i k v below key at = subst (λ (l : List (ℕ × X)). Contains l (k, value v)) is (pair_at number value ks vs i k v paired below key at)

  -- a key that wasn't found is none of the entries'
  pub read_none : (k : ℕ) → ¬ (Contains (map number ks) k) → ¬ (Contains (keys_of es) k)
  read_none k missing there = missing (subst (λ (l : List ℕ). Contains l k) (sym keys_are) there)

-- a number that isn't among the keys has no entry
pub no_entry : {X : Type 0} (es : List (ℕ × X)) (k : ℕ) → ¬ (Contains (keys_of es) k) → lookup (nat_eq k) es ≡ None
no_entry es k missing =
    elim (lookup_cases es k) as (λ _. lookup (nat_eq k) es ≡ None) [
      | inl none ↦ none
      | inr found ↦ absurd (missing (Contains-image (λ e. e.0) es (k, found.0) (Contains-from_lookup eqb-true k found.0 es found.1)))
    ]

-- the action of a table is an error, or one that is stored
pub action_cases : (table : Table) (s t : ℕ)
    → (action_of table s t ≡ Fails) ⊎ ((action : TableAction) × Contains (actions_at table s) (t, action) × (action_of table s t ≡ action))
unfolding action_of
action_cases table s t =
    elim (lookup_cases (actions_at table s) t) as (λ _. (action_of table s t ≡ Fails) ⊎ ((action : TableAction) × Contains (actions_at table s) (t, action) × (action_of table s t ≡ action))) [
      | inl none ↦ inl (ap (λ o. unwrap_or o Fails) none)
      | inr found ↦ inr (found.0, Contains-from_lookup eqb-true t found.0 (actions_at table s) found.1, ap (λ o. unwrap_or o Fails) found.1)
    ]

-- if the stored actions have their states in range, so has every action
pub action_within_row : (table : Table) (s t : ℕ) → All (IsActionEntry table.tokens table.states) (actions_at table s)
    → IsActionWithin table.states (action_of table s t)
action_within_row table s t each =
    elim (action_cases table s t) as (λ _. IsActionWithin table.states (action_of table s t)) [
      | inl none ↦ subst (IsActionWithin table.states) (sym none) tt
      | inr found ↦
          let entry = All-contains (IsActionEntry table.tokens table.states) (actions_at table s) (t, found.0) each found.1 in
          subst (IsActionWithin table.states) (sym found.2) entry.within
    ]

-- if no key is the token, the action is an error
pub action_missing : (table : Table) (s t : ℕ) → ¬ (Contains (keys_of (actions_at table s)) t) → action_of table s t ≡ Fails
unfolding action_of
action_missing table s t missing = ap (λ o. unwrap_or o Fails) (no_entry (actions_at table s) t missing)

-- if no key is the rule, there is no goto
pub goto_missing : (table : Table) (s r : ℕ) → ¬ (Contains (keys_of (gotos_at table s)) r) → goto_of table s r ≡ None
unfolding goto_of
goto_missing table s r missing = no_entry (gotos_at table s) r missing

-- a goto that was found has its state in range
pub goto_within_row : (table : Table) (s r next : ℕ) → All (IsGotoEntry table.rules table.states) (gotos_at table s) → Contains (gotos_at table s) (r, next)
    → next < table.states
goto_within_row table s r next each there =
    let entry = All-contains (IsGotoEntry table.rules table.states) (gotos_at table s) (r, next) each there in entry.within

-- an entry whose token is out of range isn't a right entry, as its test says
pub action_out_of_range : (tokens states t : ℕ) (entry : ℕ × TableAction) → t ≡ entry.0 → tokens ≤ t → IsTrue (nat_lt t tokens) ↔ IsActionEntry tokens states entry
action_out_of_range tokens states t entry same past = (
  λ h. let less = ltb-true t tokens h in absurd (omega (arith, less, past)),
  λ is. let less = is.token in absurd (omega (arith, less, same, past)),
)

-- if the token of an entry is in range, and its action is a shift, the test of its state decides whether it is a right entry
pub shift_in_range : (tokens states t next s : ℕ) (entry : ℕ × TableAction) → t ≡ entry.0 → t < tokens → entry.1 ≡ ShiftTo next → s ≡ next
    → IsTrue (nat_lt s states) ↔ IsActionEntry tokens states entry
shift_in_range tokens states t next s entry same below shift at = (
  λ h.
      let less = ltb-true s states h in
      record {
        token = omega (arith, same, below);
        stored = λ fails. absurd cc;
        within = subst (IsActionWithin states) (sym shift) (omega (arith, less, at));
      },
  λ is. let less : next < states = subst (IsActionWithin states) shift is.within in (Decides-ltb s states).1 (omega (arith, less, at)),
)

-- a test of the entries of a row whose keys ascend
pub entries_test : {K V X : Type 0} (number : K → ℕ) (value : V → X) (P : ℕ × X → Type 0) (row : List (K × V)) (b : Bool)
    → IsStrictlyIncreasing (map (λ e. number e.0) row) → IsTrue b ↔ All (λ e. P (number e.0, value e.1)) row
    → IsTrue b ↔ AreEntries P (map (λ e. (number e.0, value e.1)) row)
entries_test {K} {V} {X} number value P row b up test =
    let entry : K × V → ℕ × X = λ e. (number e.0, value e.1) in (
      λ h. record { ascending = subst IsStrictlyIncreasing (sym (keys_of-map number value row)) up; each = All-map P entry row (test.0 h) },
      λ are. test.1 (All-unmap P entry row are.each),
    )

-- the test fails for a row whose keys don't ascend, as it should
pub entries_refused : {K V X : Type 0} (number : K → ℕ) (value : V → X) (P : ℕ × X → Type 0) (row : List (K × V)) (b : Bool) → b ≡ false
    → IsTrue b ↔ IsStrictlyIncreasing (map (λ e. number e.0) row) → IsTrue b ↔ AreEntries P (map (λ e. (number e.0, value e.1)) row)
entries_refused number value P row b failed test = (
  λ h. absurd cc,
  λ are. test.1 (subst IsStrictlyIncreasing (keys_of-map number value row) are.ascending),
)

-- what is known of a table
module _ (limit : ℕ) (table : Table) (is : IsTable limit table) where
  -- the entries of each state of a table are right entries; a state out of range has none
  pub actions_good : (s : ℕ) → AreEntries (IsActionEntry table.tokens table.states) (actions_at table s)
  actions_good s =
      elim (cases_lt s (length table.actions)) as (λ _. AreEntries (IsActionEntry table.tokens table.states) (actions_at table s)) [
        | inl below ↦ is.actions s [] below
        | inr past ↦
            let none : actions_at table s ≡ [] = get_or_past table.actions s [] past in
            rw none (record { ascending = λ k h. absurd (omega (arith, h)); each = λ k d h. absurd (omega (arith, h)) })
      ]

  -- the same of its gotos
  pub gotos_good : (s : ℕ) → AreEntries (IsGotoEntry table.rules table.states) (gotos_at table s)
  gotos_good s =
      elim (cases_lt s (length table.gotos)) as (λ _. AreEntries (IsGotoEntry table.rules table.states) (gotos_at table s)) [
        | inl below ↦ is.gotos s [] below
        | inr past ↦
            let none : gotos_at table s ≡ [] = get_or_past table.gotos s [] past in
            rw none (record { ascending = λ k h. absurd (omega (arith, h)); each = λ k d h. absurd (omega (arith, h)) })
      ]

  -- a stored action is that of the table
  pub action_stored : (s t : ℕ) (action : TableAction) → Contains (actions_at table s) (t, action)
      → (action_of table s t ≡ action) × (action ≢ Fails)
  unfolding action_of
  action_stored s t action there =
      let good = actions_good s in
      let found = (entry_found (actions_at table s) t action good.ascending).0 there in
      let entry = All-contains (IsActionEntry table.tokens table.states) (actions_at table s) (t, action) good.each there in
      (ap (λ o. unwrap_or o Fails) found, entry.stored)

  -- the stored actions are the actions of the table but errors
  pub actions_exact : (s t : ℕ) (action : TableAction)
      → Contains (actions_at table s) (t, action) ↔ ((action_of table s t ≡ action) × (action ≢ Fails))
  actions_exact s t action = (
    action_stored s t action,
    λ h.
        elim (action_cases table s t) as (λ _. Contains (actions_at table s) (t, action)) [
          | inl none ↦ absurd (h.1 (sym h.0 ∙ none))
          | inr found ↦ subst (λ (a : TableAction). Contains (actions_at table s) (t, a)) (sym found.2 ∙ h.0) found.1
        ],
  )

  -- the stored gotos are the gotos of the table
  pub gotos_exact : (s r next : ℕ)
      → Contains (gotos_at table s) (r, next) ↔ (goto_of table s r ≡ Some next)
  unfolding goto_of
  gotos_exact s r next = entry_found (gotos_at table s) r next (gotos_good s).ascending

  -- the entry of a goto
  pub goto_entry_of : (s r next : ℕ) → goto_of table s r ≡ Some next
      → IsGotoEntry table.rules table.states (r, next)
  goto_entry_of s r next at =
      let good = gotos_good s in
      All-contains (IsGotoEntry table.rules table.states) (gotos_at table s) (r, next) good.each ((gotos_exact s r next).1 at)

  -- every action has its state in range
  pub action_within : (s t : ℕ) → IsActionWithin table.states (action_of table s t)
  action_within s t = action_within_row table s t (actions_good s).each

  -- so has every goto
  pub goto_within : (s r : ℕ) → IsGotoWithin table.states (goto_of table s r)
  goto_within s r =
      let each : (o : Option ℕ) → goto_of table s r ≡ o → IsGotoWithin table.states o = λ o.
      elim o as (λ v. goto_of table s r ≡ v → IsGotoWithin table.states v) [
        | None ↦ λ at. tt
        | Some next ↦ λ at. (goto_entry_of s r next at).within
      ] in
      each (goto_of table s r) refl

  -- a table is closed
  pub closed : IsClosed table
  closed = record {
    start_within = is.start_within;
    shifts_within = λ s t next at. subst (IsActionWithin table.states) at (action_within s t);
    gotos_within = λ s r next at. (goto_entry_of s r next at).within;
  }

  -- past the tokens there are only errors
  pub no_action_past : (s t : ℕ) → table.tokens ≤ t → action_of table s t ≡ Fails
  no_action_past s t past =
      elim (action_cases table s t) as (λ _. action_of table s t ≡ Fails) [
        | inl none ↦ none
        | inr found ↦
            let entry = All-contains (IsActionEntry table.tokens table.states) (actions_at table s) (t, found.0) (actions_good s).each found.1 in
            absurd (omega (arith, entry.token, past))
      ]

  -- past the rules there are no gotos
  pub no_goto_past : (s r : ℕ) → table.rules ≤ r → goto_of table s r ≡ None
  no_goto_past s r past =
      let each : (o : Option ℕ) → goto_of table s r ≡ o → o ≡ None = λ o.
      elim o as (λ v. goto_of table s r ≡ v → v ≡ None) [
        | None ↦ λ at. refl
        | Some next ↦ λ at. let rule = (goto_entry_of s r next at).rule in absurd (omega (arith, rule, past))
      ] in
      each (goto_of table s r) refl

  -- past the states there are only errors
  pub no_action_after : (s t : ℕ) → table.states ≤ s → action_of table s t ≡ Fails
  unfolding action_of
  no_action_after s t past =
      let len = is.actions_len in
      let none : actions_at table s ≡ [] = get_or_past table.actions s [] (omega (arith, len, past)) in
      ap (λ (es : List (ℕ × TableAction)). unwrap_or (lookup (nat_eq t) es) Fails) none

  -- past the states there are no gotos
  pub no_goto_after : (s r : ℕ) → table.states ≤ s → goto_of table s r ≡ None
  unfolding goto_of
  no_goto_after s r past =
      let len = is.gotos_len in
      let none : gotos_at table s ≡ [] = get_or_past table.gotos s [] (omega (arith, len, past)) in
      ap (lookup (nat_eq r)) none
