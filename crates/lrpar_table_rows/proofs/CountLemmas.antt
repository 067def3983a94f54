-- The number of entries that a table stores, counted by its actions and its gotos.
use Rattle.std.proofs.Common.{◌≡◌, ◌≢◌, ◌<◌, ◌+◌, ◌↔◌, ◌∙◌, ℕ, Bool, true, false, ◌&&◌, nat_eq, List, [], ◌∷◌, All, Option, Some, None, length, map, slice_index_or, refl, ap, sym, subst, inl, inr, arith}
use Rattle.std.specs.Cmp.{nat_eq_equiv}
use Rattle.std.specs.List.{Contains, count_by, filter, range_with_len, sum_by}
use Rattle.std.specs.List.Sorted.{IsStrictlyIncreasing}
use Rattle.std.specs.Map.{keys_of}
use Rattle.std.specs.Option.{is_some}
use Rattle.std.specs.Set.{is_member}
use Rattle.std.proofs.lemmas.Bool.{and_from, and_parts, both_ways, eqb-true}
use Rattle.std.proofs.lemmas.Bool.Decides.{Decides-eqb}
use Rattle.std.proofs.lemmas.List.{length-map}
use Rattle.std.proofs.lemmas.List.Elements.{All-contains}
use Rattle.std.proofs.lemmas.List.FromFn.{get_or-range_with_len, fill_by_all, length-range_with_len}
use Rattle.std.proofs.lemmas.List.Kept.{IsStrictlyIncreasing-filter}
use Rattle.std.proofs.lemmas.List.Sums.{length-filter, sum_by-cons}
use Rattle.std.proofs.lemmas.Map.Made.{is_member-Decides, is_member-filter, length-from_same_keys}
use Rattle.lrpar_table_rows.specs.Table.{IsActionEntry, IsTable, Table, TableAction, ShiftTo, ReduceBy, Accepts, Fails, action_of, actions_at, actions_in, entries_len, goto_of, gotos_at, gotos_in, is_no_error}
use Rattle.lrpar_table_rows.proofs.EntryLemmas.{action_cases, action_stored, actions_good, distinct_numbers, goto_entry_of, gotos_exact, gotos_good}
use Rattle.lrpar_table_rows.proofs.ItemLemmas.{Contains-image, Contains-preimage}

-- tests that pass at the same values are the same
same_test : (a b : Bool) → (a ≡ true → b ≡ true) → (b ≡ true → a ≡ true) → a ≡ b
same_test true b to from = sym (to refl)
same_test false true to from = from refl
same_test false false to from = refl

-- the numbers below n ascend
range_up : (n : ℕ) → IsStrictlyIncreasing (range_with_len 0 n)
range_up n k below =
    let len = length-range_with_len 0 n in
    let here = get_or-range_with_len 0 n k 0 (omega (arith, len, below)) in
    let next = get_or-range_with_len 0 n (k + 1) 0 (omega (arith, len, below)) in
    omega (arith, here, next)

-- each number below n is in the range
range_has : (n k : ℕ) → k < n → Contains (range_with_len 0 n) k
range_has n k below =
    let len = length-range_with_len 0 n in
    let here = get_or-range_with_len 0 n k k below in
    (k, omega (arith, len, below), here ∙ omega arith)

-- a test that passes at the keys alone, which ascend and are below n, passes at as many numbers below n as there are keys
keys_counted : (p : ℕ → Bool) (n : ℕ) (ks : List ℕ) → IsStrictlyIncreasing ks → ((k : ℕ) → Contains ks k → k < n)
    → ((k : ℕ) → (p k ≡ true) ↔ Contains ks k) → count_by p (range_with_len 0 n) ≡ length ks
keys_counted p n ks up below passes =
    let range = range_with_len 0 n in
    let same : (q : ℕ) → is_member nat_eq (filter p range) q ≡ is_member nat_eq ks q = λ q.
    let found = is_member-Decides Decides-eqb ks q in
    let listed = is_member-Decides Decides-eqb range q in
    is_member-filter nat_eq_equiv p q (λ x e. ap p (eqb-true q x e)) range
    ∙ same_test (is_member nat_eq range q && p q) (is_member nat_eq ks q)
    (λ h. found.1 ((passes q).0 (and_parts (is_member nat_eq range q) (p q) h).1))
    (λ h. let there = found.0 h in and_from (is_member nat_eq range q) (p q) (listed.1 (range_has n q (below q there))) ((passes q).1 there)) in
    sym (length-filter p range)
    ∙ length-from_same_keys nat_eq_equiv (filter p range) ks (distinct_numbers (filter p range) (IsStrictlyIncreasing-filter p range (range_up n)))
    (distinct_numbers ks up) same

-- a key is that of an entry
key_of : {X : Type 0} (es : List (ℕ × X)) (k : ℕ) → Contains (keys_of es) k → (x : X) × Contains es (k, x)
key_of {X} es k there =
    let e = Contains-preimage (λ (e : ℕ × X). e.0) es k there in
    (e.0.1, subst (λ (n : ℕ). Contains es (n, e.0.1)) e.2 e.1)

-- and an entry has its key
has_key : {X : Type 0} (es : List (ℕ × X)) (k : ℕ) (x : X) → Contains es (k, x) → Contains (keys_of es) k
has_key {X} es k x there = Contains-image (λ (e : ℕ × X). e.0) es (k, x) there

-- an action other than an error
no_error : (action : TableAction) → action ≢ Fails → is_no_error action ≡ true
no_error (ShiftTo s) not = refl
no_error (ReduceBy p) not = refl
no_error Accepts not = refl
no_error Fails not = absurd (not refl)

-- a state stores as many actions as there are tokens with an action other than an error
pub actions_counted : (limit : ℕ) (table : Table) → IsTable limit table → (s : ℕ) → actions_in table s ≡ length (actions_at table s)
actions_counted limit table is s =
    let es = actions_at table s in
    let good = actions_good limit table is s in
    let stored : (t : ℕ) → is_no_error (action_of table s t) ≡ true → Contains (keys_of es) t = λ t h.
    elim (action_cases table s t) as (λ _. Contains (keys_of es) t) [
      | inl none ↦ absurd (both_ways _ (ap is_no_error none) h)
      | inr found ↦ has_key es t found.0 found.1
    ] in
    keys_counted (λ t. is_no_error (action_of table s t)) table.tokens (keys_of es) good.ascending
    (λ t there. let e = key_of es t there in within es (t, e.0) good.each e.1)
    (λ t. (
      stored t,
      λ there.
          let e = key_of es t there in
          let at = action_stored limit table is s t e.0 e.1 in
          no_error (action_of table s t) (λ fails. at.1 (sym at.0 ∙ fails)),
    ))
    ∙ length-map es (λ (e : ℕ × TableAction). e.0)
  where
    within : (es : List (ℕ × TableAction)) (e : ℕ × TableAction) → All (IsActionEntry table.tokens table.states) es → Contains es e → e.0 < table.tokens
    within es e each there = let entry = All-contains (IsActionEntry table.tokens table.states) es e each there in entry.token

-- and as many gotos as there are rules with a goto
pub gotos_counted : (limit : ℕ) (table : Table) → IsTable limit table → (s : ℕ) → gotos_in table s ≡ length (gotos_at table s)
gotos_counted limit table is s =
    let es = gotos_at table s in
    let good = gotos_good limit table is s in
    let stored : (r : ℕ) → is_some (goto_of table s r) ≡ true → Contains (keys_of es) r = λ r h.
    let goto = some_goto (goto_of table s r) h in
    has_key es r goto.0 ((gotos_exact limit table is s r goto.0).1 goto.1) in
    keys_counted (λ r. is_some (goto_of table s r)) table.rules (keys_of es) good.ascending
    (λ r there.
    let e = key_of es r there in
    let entry = goto_entry_of limit table is s r e.0 ((gotos_exact limit table is s r e.0).0 e.1) in
    entry.rule)
    (λ r. (stored r, λ there. let e = key_of es r there in ap is_some ((gotos_exact limit table is s r e.0).0 e.1)))
    ∙ length-map es (λ (e : ℕ × ℕ). e.0)
  where
    some_goto : (goto : Option ℕ) → is_some goto ≡ true → (next : ℕ) × (goto ≡ Some next)
    some_goto (Some next) h = (next, refl)
    some_goto None h = absurd (both_ways _ refl h)

-- sums of the same numbers are the same
same_sums : (f h : ℕ → ℕ) → ((k : ℕ) → f k ≡ h k) → (xs : List ℕ) → sum_by f xs ≡ sum_by h xs
same_sums f h same [] = refl
same_sums f h same (x ∷ xs) =
    let here = sum_by-cons f x xs in
    let there = sum_by-cons h x xs in
    omega (arith, here, there, same x, same_sums f h same xs)

-- a sum of sums
sum_of_both : (f h : ℕ → ℕ) (xs : List ℕ) → sum_by (λ k. f k + h k) xs ≡ sum_by f xs + sum_by h xs
sum_of_both f h [] = refl
sum_of_both f h (x ∷ xs) =
    let all = sum_by-cons (λ (k : ℕ). f k + h k) x xs in
    let left = sum_by-cons f x xs in
    let right = sum_by-cons h x xs in
    omega (arith, all, left, right, sum_of_both f h xs)

-- a sum over an image
sum_by-image : {X Y : Type 0} (f : Y → ℕ) (g : X → Y) (xs : List X) → sum_by f (map g xs) ≡ sum_by (λ x. f (g x)) xs
sum_by-image f g [] = refl
sum_by-image {X} {Y} f g (x ∷ xs) =
    let image = sum_by-cons f (g x) (map g xs) in
    let all = sum_by-cons (λ (y : X). f (g y)) x xs in
    omega (arith, image, all, sum_by-image f g xs)

-- the rows of a list, read by their places, have as many elements as the list's rows
rows_read : {X : Type 0} (rows : List (List X)) (n : ℕ) → length rows ≡ n
    → sum_by (λ s. length (slice_index_or rows s [])) (range_with_len 0 n) ≡ sum_by (λ row. length row) rows
rows_read {X} rows n len =
    let row : ℕ → List X = λ s. slice_index_or rows s [] in
    let all : rows ≡ map row (range_with_len 0 n) = fill_by_all row rows n [] len (λ k below. refl) in
    sym (sum_by-image (λ (r : List X). length r) row (range_with_len 0 n)) ∙ sym (ap (sum_by (λ (r : List X). length r)) all)

-- the entries of a table are those of its lists
pub entries_counted : (limit : ℕ) (table : Table) → IsTable limit table
    → entries_len table ≡ sum_by (λ entries. length entries) table.actions + sum_by (λ entries. length entries) table.gotos
entries_counted limit table is =
    let states = range_with_len 0 table.states in
    let stored : (s : ℕ) → actions_in table s + gotos_in table s ≡ length (actions_at table s) + length (gotos_at table s) = λ s.
    omega (arith, actions_counted limit table is s, gotos_counted limit table is s) in
    same_sums _ (λ s. length (actions_at table s) + length (gotos_at table s)) stored states
    ∙ sum_of_both (λ s. length (actions_at table s)) (λ s. length (gotos_at table s)) states
    ∙ (let actions = rows_read table.actions table.states is.actions_len in
    let gotos = rows_read table.gotos table.states is.gotos_len in
    omega (arith, actions, gotos))
