-- States of two tables to which the same paths lead: how pairs are added, and that all are found.
use Rattle.std.proofs.Common.{◌≡◌, ◌≢◌, ◌<◌, ◌≤◌, ◌+◌, ◌*◌, ◌||◌, ◌==◌, ◌↔◌, ◌∙◌, refl, sym, ap, subst, inl, inr, arith, ℕ, zero, suc, Bool, true, false, List, [], ◌∷◌, ◌++◌, Option, Some, None, append_assoc, get_or, length, length-append, map, nat_eq, set, take}
use Rattle.std.specs.List.{AllByRecursion, Contains, IsDistinct, list_any}
use Rattle.std.proofs.Math.Dec.{eqb}
use Rattle.std.proofs.Math.Nat.{mul-le-mul_left}
use Rattle.std.proofs.lemmas.Bool.{cases_eq, cases_lt, eq-eqb, eqb-true, false≢true, ne_eqb}
use Rattle.std.proofs.lemmas.List.{append-nil, get_or_append_left, get_or_default, get_or-map, get_or-set_other, get_or-set_same, length-map, length-set, map-append, map-set, take_all, take_more}
use Rattle.std.proofs.lemmas.List.Elements.{Contains-append_cases, Contains-append_left, Contains-append_right, Contains-get_or}
use Rattle.std.proofs.lemmas.Map.Views.{Contains-from_any}
use Rattle.std.proofs.lemmas.Map.Steps.{length-le_from_distinct_below}
use Rattle.std.specs.declared.vec.Vec.{Vec}
use Rattle.lrpar_table_rows.specs.Table.{IsClosed, Table, TableAction, ShiftTo, ReduceBy, Accepts, Fails, action_of, actions_at, goto_of, gotos_at, states_len}
use Rattle.lrpar_table_sentences.specs.AccessLens.{IsStoredAt}
use Rattle.lrpar_table_build.proofs.MemberLemmas.{joined_has, joined_member, member_cases, member_first, member_later, member_none}
use Rattle.lrpar_conflict_examples.specs.Pairs.{AddsPair, AddsPairs, AllPaired, AreAllPairs, AreBelow, AreEmptyRows, AreFound, ArePaired, BothGo, BothShift, BothStart, BothStep, HasFound, IsFollowed, IsPairStep, PairLists, WasNew, WasThere, goto_pair, goto_pairs, has_pair, pair_number, shift_pair, shift_pairs}

-- a number is in a list if and only if the test finds it
any_member : (xs : List ℕ) (q : ℕ) → list_any (λ x. x == q) xs ≡ true → Contains xs q
any_member [] q is = absurd (false≢true is)
any_member (x ∷ xs) q is =
    elim (cases_eq x q) [
      | inl same ↦ subst (Contains (x ∷ xs)) same (member_first x xs)
      | inr other ↦ member_later x xs q (any_member xs q (sym (ap (λ b. b || list_any (λ y. y == q) xs) (ne_eqb x q other)) ∙ is))
    ]

or_true : (b : Bool) → (b || true) ≡ true
or_true true = refl
or_true false = refl

member_any : (xs : List ℕ) (q : ℕ) → Contains xs q → list_any (λ x. x == q) xs ≡ true
member_any [] q there = absurd (member_none q there)
member_any (x ∷ xs) q there =
    elim (member_cases x xs q there) [
      | inl same ↦ ap (λ b. b || list_any (λ y. y == q) xs) (eq-eqb x q same)
      | inr later ↦ ap (λ b. (x == q) || b) (member_any xs q later) ∙ or_true (x == q)
    ]

-- the row of a state in the code, and a row that is written
module _ {A : Type 0} (rows : List (Vec ℕ A)) (s : ℕ) (row : Vec ℕ A) (low : s < length rows) (is : row ≡ get_or rows s row) where
  pub row_items : get_or (map (λ (r : Vec ℕ A). r.items) rows) s [] ≡ row.items
  row_items = get_or-map (λ (r : Vec ℕ A). r.items) rows s row [] low ∙ sym (ap (λ (r : Vec ℕ A). r.items) is)

  pub has_by : (items : List ℕ) (q : ℕ) (b : Bool) → items ≡ row.items → b ≡ list_any (λ x. eqb x q) items → has_pair (map (λ (r : Vec ℕ A). r.items) rows) s q ≡ b
  has_by items q b same value = ap (list_any (λ x. x == q)) (row_items ∙ sym same) ∙ sym value

  pub row_put : (old new : Vec ℕ A) (q : ℕ) → old ≡ row → new.items ≡ old.items ++ q ∷ []
      → map (λ (r : Vec ℕ A). r.items) (set rows s new)
      ≡ set (map (λ (r : Vec ℕ A). r.items) rows) s (get_or (map (λ (r : Vec ℕ A). r.items) rows) s [] ++ q ∷ [])
  row_put old new q same put =
      map-set (λ (r : Vec ℕ A). r.items) rows s new
      ∙ ap (set (map (λ (r : Vec ℕ A). r.items) rows) s) (put ∙ ap (λ (r : Vec ℕ A). r.items ++ q ∷ []) same ∙ ap (λ l. l ++ q ∷ []) (sym row_items))

-- the numbers of pairs tell them apart, and are below the product
number_below : (n m : ℕ) (p : ℕ × ℕ) → p.0 < n → p.1 < m → pair_number m p < n * m
number_below n m p first second = let most : m * (p.0 + 1) ≤ m * n = mul-le-mul_left m (omega (arith, first)) in omega (arith, most, second)

less_number : (m a b c d : ℕ) → b < m → a < c → m * a + b ≡ m * c + d → ⊥
less_number m a b c d low less same = let most : m * (a + 1) ≤ m * c = mul-le-mul_left m (omega (arith, less)) in omega (arith, most, low, same)

same_number : (m a b c d : ℕ) → b < m → d < m → m * a + b ≡ m * c + d → (a ≡ c) × (b ≡ d)
same_number m a b c d low below same =
    elim (cases_eq a c) [
      | inl is ↦ (is, let product = ap (λ x. m * x) is in omega (arith, product, same))
      | inr other ↦
          elim (cases_lt a c) [
            | inl less ↦ absurd (less_number m a b c d low less same)
            | inr more ↦ absurd (less_number m c d a b below (omega (arith, more, other)) (sym same))
          ]
    ]

-- one number more, which isn't in a list of distinct ones
distinct_end : (xs : List ℕ) (y : ℕ) → IsDistinct nat_eq xs → (Contains xs y → ⊥) → IsDistinct nat_eq (xs ++ y ∷ [])
unfolding IsDistinct
distinct_end [] y once never = (tt, tt)
distinct_end (x ∷ xs) y once never = (
  apart xs once.0 (ne_eqb x y (λ same. never (subst (Contains (x ∷ xs)) same (member_first x xs)))),
  distinct_end xs y once.1 (λ there. never (member_later x xs y there)),
)
  where
    apart : (zs : List ℕ) → AllByRecursion (λ z. eqb x z ≡ false) zs → eqb x y ≡ false → AllByRecursion (λ z. eqb x z ≡ false) (zs ++ y ∷ [])
    apart [] all last = (last, tt)
    apart (z ∷ zs) all last = (all.0, apart zs all.1 last)

-- a pair whose number is in the list of numbers is in the list of pairs
numbered : (m : ℕ) (found : List (ℕ × ℕ)) (y : ℕ) → Contains (map (pair_number m) found) y → (p : ℕ × ℕ) × Contains found p × (pair_number m p ≡ y)
numbered m [] y there = absurd (member_none y there)
numbered m (p ∷ found) y there =
    elim (member_cases (pair_number m p) (map (pair_number m) found) y there) [
      | inl same ↦ (p, member_first p found, same)
      | inr later ↦ let rest = numbered m found y later in (rest.0, member_later p found rest.0 rest.1, rest.2)
    ]

-- a step from states of both tables leads to states of both
pub step_within : (one other : Table) → IsClosed one → IsClosed other → (s q next beside : ℕ) → IsPairStep one other s q next beside
    → (next < states_len one) × (beside < states_len other)
step_within one other first second s q next beside (BothShift t left right) = (first.shifts_within s t next left, second.shifts_within q t beside right)
step_within one other first second s q next beside (BothGo r left right) = (first.gotos_within s r next left, second.gotos_within q r beside right)

-- both states of a pair are in range
pub paired_within : (one other : Table) → IsClosed one → IsClosed other → (s q : ℕ) → ArePaired one other s q → (s < states_len one) × (q < states_len other)
paired_within one other first second s q BothStart = (first.start_within, second.start_within)
paired_within one other first second next beside (BothStep s q n b before step) = step_within one other first second s q n b step

-- pairs that are found so far
module _ (one other : Table) (x : PairLists) (are : AreFound one other x) where
  -- both states of a pair that is found are in range
  pub found_within : (s q : ℕ) → Contains x.found (s, q) → (s < states_len one) × (q < states_len other)
  found_within s q there = paired_within one other are.first are.second s q (are.sound s q there)

  -- no more are found than there are
  pub few : length x.found ≤ states_len one * states_len other
  few =
      let m = states_len other in
      let numbers = length-le_from_distinct_below (map (pair_number m) x.found) (states_len one * m) are.once below in
      let len = length-map x.found (pair_number m) in
      omega (arith, len, numbers)
    where
      below : (y : ℕ) → list_any (eqb y) (map (pair_number (states_len other)) x.found) ≡ true → y < states_len one * states_len other
      below y is =
          let at = Contains-from_any (λ a b same. eqb-true a b same) y (map (pair_number (states_len other)) x.found) is in
          let pair = numbered (states_len other) x.found y at in
          let within = found_within pair.0.0 pair.0.1 pair.1 in
          subst (λ n. n < states_len one * states_len other) pair.2 (number_below (states_len one) (states_len other) pair.0 within.0 within.1)

-- a pair more
module _ (one other : Table) (s q : ℕ) (old new : PairLists) (are : AreFound one other old) (paired : ArePaired one other s q) where
  alone : (a b : ℕ) → Contains {X = ℕ × ℕ} ((s, q) ∷ []) (a, b) → (s ≡ a) × (q ≡ b)
  alone a b there =
      elim (member_cases (s, q) [] (a, b) there) [
        | inl same ↦ (ap (λ (p : ℕ × ℕ). p.0) same, ap (λ (p : ℕ × ℕ). p.1) same)
        | inr none ↦ absurd (member_none (a, b) none)
      ]

  module _ (absent : has_pair old.rows s q ≡ false) (rows_are : new.rows ≡ set old.rows s (get_or old.rows s [] ++ q ∷ [])) (found_are : new.found ≡ old.found ++ (s, q) ∷ []) where
    row : List ℕ
    row = get_or old.rows s []

    here : get_or new.rows s [] ≡ get_or old.rows s [] ++ q ∷ []
    here =
        ap (λ rows. get_or rows s []) rows_are
        ∙ get_or-set_same old.rows s (get_or old.rows s [] ++ q ∷ []) []
        (let within = (paired_within one other are.first are.second s q paired).0 in let count = are.states in omega (arith, within, count))

    elsewhere : (a : ℕ) → a ≢ s → get_or new.rows a [] ≡ get_or old.rows a []
    elsewhere a apart = ap (λ rows. get_or rows a []) rows_are ∙ get_or-set_other old.rows s a (get_or old.rows s [] ++ q ∷ []) [] apart

    last : Contains new.found (s, q)
    last = subst (λ l. Contains l (s, q)) (sym found_are) (Contains-append_right old.found ((s, q) ∷ []) (s, q) (member_first (s, q) []))

    kept : (a b : ℕ) → Contains old.found (a, b) → Contains new.found (a, b)
    kept a b there = subst (λ l. Contains l (a, b)) (sym found_are) (Contains-append_left old.found ((s, q) ∷ []) (a, b) there)

    to_found : (a b : ℕ) → has_pair new.rows a b ≡ true → Contains new.found (a, b)
    to_found a b is =
        elim (cases_eq a s) [
          | inl same ↦
              elim (Contains-append_cases (get_or old.rows s []) (q ∷ []) b (any_member (get_or old.rows s [] ++ q ∷ []) b (sym (ap (list_any (λ x. x == b)) (ap (λ n. get_or new.rows n []) same ∙ here)) ∙ is))) [
                | inl before ↦ subst (λ n. Contains new.found (n, b)) (sym same) (kept s b ((are.same s b).0 (member_any (get_or old.rows s []) b before)))
                | inr now ↦
                    elim (member_cases q [] b now) [
                      | inl too ↦ subst (λ n. Contains new.found (n, b)) (sym same) (subst (λ n. Contains new.found (s, n)) too last)
                      | inr none ↦ absurd (member_none b none)
                    ]
              ]
          | inr apart ↦ kept a b ((are.same a b).0 (sym (ap (list_any (λ x. x == b)) (elsewhere a apart)) ∙ is))
        ]

    to_rows : (a b : ℕ) → Contains new.found (a, b) → has_pair new.rows a b ≡ true
    to_rows a b there =
        elim (Contains-append_cases old.found ((s, q) ∷ []) (a, b) (subst (λ l. Contains l (a, b)) found_are there)) [
          | inl before ↦
              elim (cases_eq a s) [
                | inl same ↦
                    ap (λ n. list_any (λ x. x == b) (get_or new.rows n [])) same ∙ ap (list_any (λ x. x == b)) here
                    ∙ member_any (get_or old.rows s [] ++ q ∷ []) b
                    (Contains-append_left (get_or old.rows s []) (q ∷ []) b
                    (any_member (get_or old.rows s []) b (sym (ap (λ n. has_pair old.rows n b) same) ∙ (are.same a b).1 before)))
                | inr apart ↦ ap (list_any (λ x. x == b)) (elsewhere a apart) ∙ (are.same a b).1 before
              ]
          | inr now ↦
              let both = alone a b now in
              ap (λ n. list_any (λ x. x == b) (get_or new.rows n [])) (sym both.0) ∙ ap (list_any (λ x. x == b)) here
              ∙ member_any (get_or old.rows s [] ++ q ∷ []) b
              (Contains-append_right (get_or old.rows s []) (q ∷ []) b (subst (Contains (q ∷ [])) both.1 (member_first q [])))
        ]

    sound_now : (a b : ℕ) → Contains new.found (a, b) → ArePaired one other a b
    sound_now a b there =
        elim (Contains-append_cases old.found ((s, q) ∷ []) (a, b) (subst (λ l. Contains l (a, b)) found_are there)) [
          | inl before ↦ are.sound a b before
          | inr now ↦ let both = alone a b now in subst (λ n. ArePaired one other n b) both.0 (subst (ArePaired one other s) both.1 paired)
        ]

    never : Contains (map (pair_number (states_len other)) old.found) (pair_number (states_len other) (s, q)) → ⊥
    never there =
        let m = states_len other in
        let own = numbered m old.found (pair_number m (s, q)) there in
        let within = found_within one other old are own.0.0 own.0.1 own.1 in
        let low = (paired_within one other are.first are.second s q paired).1 in
        let same = same_number m own.0.0 own.0.1 s q within.1 low own.2 in
        let at : Contains old.found (s, q) = subst (λ n. Contains old.found (n, q)) same.0 (subst (λ n. Contains old.found (own.0.0, n)) same.1 own.1) in
        false≢true (sym absent ∙ (are.same s q).1 at)

    once_now : IsDistinct nat_eq (map (pair_number (states_len other)) new.found)
    once_now =
        let f = pair_number (states_len other) in
        subst (IsDistinct nat_eq) (sym (ap (map f) found_are ∙ map-append f old.found ((s, q) ∷ []))) (distinct_end (map f old.found) (f (s, q)) are.once never)

    new_found : HasFound one other ((s, q) ∷ []) old new
    new_found = record {
      found =
          record {
            first = are.first;
            second = are.second;
            states = ap length rows_are ∙ length-set old.rows s (get_or old.rows s [] ++ q ∷ []) ∙ are.states;
            same = λ a b. (to_found a b, to_rows a b);
            sound = sound_now;
            once = once_now;
          };
      more = (s, q) ∷ [];
      grown = found_are;
      all = λ a b there. let both = alone a b there in subst (λ n. Contains new.found (n, b)) both.0 (subst (λ n. Contains new.found (s, n)) both.1 last);
    }

  pub pair_added : AddsPair s q old new → HasFound one other ((s, q) ∷ []) old new
  pair_added (WasThere is same) = record {
    found = subst (AreFound one other) (sym same) are;
    more = [];
    grown = ap (λ (x : PairLists). x.found) same ∙ sym (append-nil old.found);
    all = λ a b there.
        let both = alone a b there in
        subst (λ (x : PairLists). Contains x.found (a, b)) (sym same)
        (subst (λ n. Contains old.found (n, b)) both.0 (subst (λ n. Contains old.found (s, n)) both.1 ((are.same s q).0 is)));
  }
  pair_added (WasNew absent rows_are found_are) = new_found absent rows_are found_are

-- pairs after pairs
module _ (one other : Table) (some more : List (ℕ × ℕ)) (old mid new : PairLists) where
  pub found_after : HasFound one other some old mid → HasFound one other more mid new → HasFound one other (some ++ more) old new
  found_after first second = record {
    found = second.found;
    more = first.more ++ second.more;
    grown = second.grown ∙ ap (λ l. l ++ second.more) first.grown ∙ append_assoc old.found first.more second.more;
    all = λ a b there.
        elim (Contains-append_cases some more (a, b) there) [
          | inl before ↦
              subst (λ l. Contains l (a, b)) (sym second.grown) (Contains-append_left mid.found second.more (a, b) (first.all a b before))
          | inr now ↦ second.all a b now
        ];
  }

-- none are added at first, then one more
pub added_none : (pairs : List (ℕ × ℕ)) (x : PairLists) → AddsPairs (take 0 pairs) x x
added_none pairs x one other are paired = record {
  found = are;
  more = [];
  grown = sym (append-nil x.found);
  all = λ a b there. absurd (none pairs a b there);
}
  where
    none : (l : List (ℕ × ℕ)) (a b : ℕ) → Contains (take 0 l) (a, b) → ⊥
    none [] a b there = member_none (a, b) there
    none (p ∷ l) a b there = member_none (a, b) there

pub added_more : (pairs : List (ℕ × ℕ)) (i : ℕ) (old mid new : PairLists) → i < length pairs → AddsPairs (take i pairs) old mid
    → AddsPair (get_or pairs i (0, 0)).0 (get_or pairs i (0, 0)).1 mid new → AddsPairs (take (i + 1) pairs) old new
added_more pairs i old mid new low so_far put one other are paired =
    let p = get_or pairs i (0, 0) in
    let longer : take (i + 1) pairs ≡ take i pairs ++ p ∷ [] = take_more pairs i (0, 0) low in
    let all : AllPaired one other (take i pairs ++ p ∷ []) = subst (AllPaired one other) longer paired in
    let first = so_far one other are (λ a b there. all a b (Contains-append_left (take i pairs) (p ∷ []) (a, b) there)) in
    let own = all p.0 p.1 (Contains-append_right (take i pairs) (p ∷ []) p (member_first p [])) in
    subst (λ l. HasFound one other l old new) (sym longer)
    (found_after one other (take i pairs) (p ∷ []) old mid new first (pair_added one other p.0 p.1 mid new first.found own put))

pub added_all : (pairs : List (ℕ × ℕ)) (i : ℕ) (old new : PairLists) → length pairs ≤ i → AddsPairs (take i pairs) old new → AddsPairs pairs old new
added_all pairs i old new past added = subst (λ l. AddsPairs l old new) (take_all i pairs past) added

-- nothing is found at first
pub none_found : (one other : Table) (x : PairLists) → IsClosed one → IsClosed other → length x.rows ≡ states_len one → ((s : ℕ) → get_or x.rows s [] ≡ []) → x.found ≡ []
    → AreFound one other x
unfolding IsDistinct
none_found one other x first second count empty none = record {
  first = first;
  second = second;
  states = count;
  same = λ s q. (λ is. absurd (false≢true (sym (ap (list_any (λ y. y == q)) (empty s)) ∙ is)), λ there. absurd (member_none (s, q) (subst (λ l. Contains l (s, q)) none there)));
  sound = λ s q there. absurd (member_none (s, q) (subst (λ l. Contains l (s, q)) none there));
  once = subst (λ l. IsDistinct nat_eq (map (pair_number (states_len other)) l)) (sym none) tt;
}

-- the pairs in the places so far are followed
module _ (one other : Table) where
  pub followed_more : (place : ℕ) (old new : PairLists) (nexts : List (ℕ × ℕ)) → place < length old.found
      → ((k : ℕ) → k < place → IsFollowed one other old.found (get_or old.found k (0, 0)))
      → ((next beside : ℕ) → Contains nexts (next, beside) ↔ IsPairStep one other (get_or old.found place (0, 0)).0 (get_or old.found place (0, 0)).1 next beside)
      → HasFound one other nexts old new → (k : ℕ) → k < place + 1 → IsFollowed one other new.found (get_or new.found k (0, 0))
  followed_more place old new nexts low so_far exact has k below next beside step =
      let in_old : k < length old.found = omega (arith, low, below) in
      let same : get_or new.found k (0, 0) ≡ get_or old.found k (0, 0) = ap (λ l. get_or l k (0, 0)) has.grown ∙ get_or_append_left old.found has.more (0, 0) k in_old in
      let own : IsPairStep one other (get_or old.found k (0, 0)).0 (get_or old.found k (0, 0)).1 next beside =
      subst (λ (p : ℕ × ℕ). IsPairStep one other p.0 p.1 next beside) same step in
      elim (cases_lt k place) [
        | inl before ↦ subst (λ l. Contains l (next, beside)) (sym has.grown) (Contains-append_left old.found has.more (next, beside) (so_far k before next beside own))
        | inr now ↦
            let at : k ≡ place = omega (arith, below, now) in
            has.all next beside ((exact next beside).1 (subst (λ n. IsPairStep one other (get_or old.found n (0, 0)).0 (get_or old.found n (0, 0)).1 next beside) at own))
      ]

  -- once all are followed, all are found
  pub all_found : (x : PairLists) → AreFound one other x → Contains x.found (one.start, other.start)
      → ((k : ℕ) → k < length x.found → IsFollowed one other x.found (get_or x.found k (0, 0))) → AreAllPairs one other x
  all_found x are start followed = record { exact = λ s q. (λ is. are.sound s q ((are.same s q).0 is), λ paired. (are.same s q).1 (there s q paired)); bound = few one other x are }
    where
      there : (s q : ℕ) → ArePaired one other s q → Contains x.found (s, q)
      there s q BothStart = start
      there next beside (BothStep s q n b before step) =
          let at = there s q before in
          let same : get_or x.found at.0 (0, 0) ≡ (s, q) = get_or_default x.found at.0 (0, 0) (s, q) at.1 ∙ at.2 in
          followed at.0 at.1 n b (subst (λ (p : ℕ × ℕ). IsPairStep one other p.0 p.1 n b) (sym same) step)

-- the pair of the starts alone
pub first_found : (one other : Table) (n s q : ℕ) (old new : PairLists) → IsClosed one → IsClosed other → n ≡ states_len one → s ≡ one.start → q ≡ other.start
    → AreEmptyRows n old.rows → old.found ≡ [] → AddsPair s q old new → AreFound one other new × Contains new.found (one.start, other.start)
first_found one other n s q old new first second count here beside empty none put =
    let are = none_found one other old first second (empty.len ∙ count) empty.none none in
    let own : AddsPair one.start other.start old new =
    subst (λ k. AddsPair k other.start old new) here (subst (λ k. AddsPair s k old new) beside put) in
    let has = pair_added one other one.start other.start old new are BothStart own in
    (has.found, has.all one.start other.start (member_first (one.start, other.start) []))

-- a round of the loop: the pairs to which one step leads from pair p, which was found
module _ (one other : Table) (place : ℕ) (old : PairLists) (p : ℕ × ℕ) (nexts : List (ℕ × ℕ)) (low : place < length old.found) (is : p ≡ get_or old.found place p)
    (are : AreFound one other old) (exact : (next beside : ℕ) → Contains nexts (next, beside) ↔ IsPairStep one other p.0 p.1 next beside) where
  here_found : Contains old.found p
  here_found = (place, low, sym is)

  pub nexts_below : (n : ℕ) → length old.rows ≡ n → AreBelow n nexts
  nexts_below n count k d within =
      let x = get_or nexts k d in
      let step = (exact x.0 x.1).0 (Contains-get_or nexts k d within) in
      let inside = (step_within one other are.first are.second p.0 p.1 x.0 x.1 step).0 in
      let long = are.states in
      omega (arith, inside, long, count)

  pub place_below : place < states_len one * states_len other
  place_below = let most = few one other old are in omega (arith, low, most)

  pub round_more : (new : PairLists) → Contains old.found (one.start, other.start)
      → ((k : ℕ) → k < place → IsFollowed one other old.found (get_or old.found k (0, 0))) → AddsPairs nexts old new
      → AreFound one other new × Contains new.found (one.start, other.start) × ((k : ℕ) → k < place + 1 → IsFollowed one other new.found (get_or new.found k (0, 0)))
  round_more new start so_far added =
      let has = added one other are (λ a b there. BothStep p.0 p.1 a b (are.sound p.0 p.1 here_found) ((exact a b).0 there)) in
      let at : p ≡ get_or old.found place (0, 0) = is ∙ get_or_default old.found place p (0, 0) low in (
        has.found,
        subst (λ l. Contains l (one.start, other.start)) (sym has.grown) (Contains-append_left old.found has.more (one.start, other.start) start),
        followed_more one other place old new nexts low so_far
            (λ next beside. subst (λ (r : ℕ × ℕ). Contains nexts (next, beside) ↔ IsPairStep one other r.0 r.1 next beside) at (exact next beside)) has,
      )

-- empty rows: one more
pub empty_none : (rows : List (List ℕ)) → rows ≡ [] → AreEmptyRows 0 rows
empty_none rows none = subst (AreEmptyRows 0) (sym none) (record { len = refl; none = λ s. refl })

pub empty_more : {A : Type 0} (n : ℕ) (old new : List (Vec ℕ A)) (row : Vec ℕ A) → AreEmptyRows n (map (λ (r : Vec ℕ A). r.items) old) → row.items ≡ []
    → new ≡ old ++ row ∷ [] → AreEmptyRows (n + 1) (map (λ (r : Vec ℕ A). r.items) new)
empty_more {A} n old new row are none put =
    let items : Vec ℕ A → List ℕ = λ r. r.items in
    let longer : map items new ≡ map items old ++ [] ∷ [] =
    ap (map items) put ∙ map-append items old (row ∷ []) ∙ ap (λ (l : List ℕ). map items old ++ l ∷ []) none in
    subst (AreEmptyRows (n + 1)) (sym longer)
    (record { len = length-append (map items old) ([] ∷ []) ∙ ap (λ k. k + 1) are.len; none = nothing (map items old) are.none })
  where
    nothing : (rows : List (List ℕ)) → ((s : ℕ) → get_or rows s [] ≡ []) → (s : ℕ) → get_or (rows ++ [] ∷ []) s [] ≡ []
    nothing [] before zero = refl
    nothing [] before (suc s) = refl
    nothing (r ∷ rows) before zero = before 0
    nothing (r ∷ rows) before (suc s) = nothing rows (λ k. before (suc k)) s

-- what comes of two actions, and of a goto
shift_parts : (a b : TableAction) (next beside : ℕ) → Contains (shift_pair a b) (next, beside) → (a ≡ ShiftTo next) × (b ≡ ShiftTo beside)
shift_parts (ShiftTo n) (ShiftTo m) next beside there =
    elim (member_cases (n, m) [] (next, beside) there) [
      | inl same ↦ (ap (λ (p : ℕ × ℕ). ShiftTo p.0) same, ap (λ (p : ℕ × ℕ). ShiftTo p.1) same)
      | inr none ↦ absurd (member_none (next, beside) none)
    ]
shift_parts (ShiftTo n) (ReduceBy p) next beside there = absurd (member_none (next, beside) there)
shift_parts (ShiftTo n) Accepts next beside there = absurd (member_none (next, beside) there)
shift_parts (ShiftTo n) Fails next beside there = absurd (member_none (next, beside) there)
shift_parts (ReduceBy p) b next beside there = absurd (member_none (next, beside) there)
shift_parts Accepts b next beside there = absurd (member_none (next, beside) there)
shift_parts Fails b next beside there = absurd (member_none (next, beside) there)

goto_parts : (n : ℕ) (o : Option ℕ) (next beside : ℕ) → Contains (goto_pair n o) (next, beside) → (n ≡ next) × (o ≡ Some beside)
goto_parts n (Some m) next beside there =
    elim (member_cases (n, m) [] (next, beside) there) [
      | inl same ↦ (ap (λ (p : ℕ × ℕ). p.0) same, ap (λ (p : ℕ × ℕ). Some p.1) same)
      | inr none ↦ absurd (member_none (next, beside) none)
    ]
goto_parts n None next beside there = absurd (member_none (next, beside) there)

-- the pairs that come of what a state stores are those to which one step of both tables leads
module _ (one other : Table) (s q : ℕ) (stored : IsStoredAt one s) (next beside : ℕ) where
  abbrev by_shift : ℕ × TableAction → List (ℕ × ℕ)
  by_shift entry = shift_pair entry.1 (action_of other q entry.0)

  abbrev by_goto : ℕ × ℕ → List (ℕ × ℕ)
  by_goto entry = goto_pair entry.1 (goto_of other q entry.0)

  is_next : Contains (shift_pairs other q (actions_at one s) ++ goto_pairs other q (gotos_at one s)) (next, beside) → IsPairStep one other s q next beside
  is_next there =
      elim (Contains-append_cases (shift_pairs other q (actions_at one s)) (goto_pairs other q (gotos_at one s)) (next, beside) there) [
        | inl shifts ↦
            let entry = joined_member by_shift (actions_at one s) (next, beside) shifts in
            let both = shift_parts entry.0.1 (action_of other q entry.0.0) next beside entry.2 in
            BothShift entry.0.0 (((stored.actions entry.0.0 entry.0.1).0 entry.1).0 ∙ both.0) both.1
        | inr gotos ↦
            let entry = joined_member by_goto (gotos_at one s) (next, beside) gotos in
            let both = goto_parts entry.0.1 (goto_of other q entry.0.0) next beside entry.2 in
            BothGo entry.0.0 ((stored.gotos entry.0.0 entry.0.1).0 entry.1 ∙ ap Some both.0) both.1
      ]

  next_is : IsPairStep one other s q next beside → Contains (shift_pairs other q (actions_at one s) ++ goto_pairs other q (gotos_at one s)) (next, beside)
  next_is (BothShift t left right) =
      Contains-append_left (shift_pairs other q (actions_at one s)) (goto_pairs other q (gotos_at one s)) (next, beside)
      (joined_has by_shift (actions_at one s) (t, ShiftTo next) (next, beside) ((stored.actions t (ShiftTo next)).1 (left, λ never. absurd (cc)))
      (subst (λ a. Contains (shift_pair (ShiftTo next) a) (next, beside)) (sym right) (member_first (next, beside) [])))
  next_is (BothGo r left right) =
      Contains-append_right (shift_pairs other q (actions_at one s)) (goto_pairs other q (gotos_at one s)) (next, beside)
      (joined_has by_goto (gotos_at one s) (r, next) (next, beside) ((stored.gotos r next).1 left)
      (subst (λ o. Contains (goto_pair next o) (next, beside)) (sym right) (member_first (next, beside) [])))

  pub next_exact : (all : List (ℕ × ℕ)) → all ≡ shift_pairs other q (actions_at one s) ++ goto_pairs other q (gotos_at one s)
      → Contains all (next, beside) ↔ IsPairStep one other s q next beside
  next_exact all are = (λ there. is_next (subst (λ l. Contains l (next, beside)) are there), λ step. subst (λ l. Contains l (next, beside)) (sym are) (next_is step))
