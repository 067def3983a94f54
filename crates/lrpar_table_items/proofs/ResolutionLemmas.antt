-- Complete cores, sorted by their productions, list the productions with a complete item.
use Rattle.std.proofs.Common.{◌≡◌, ◌≢◌, ◌<◌, ◌≤◌, ◌+◌, ◌==◌, ◌&&◌, ◌||◌, ◌∷◌, ◌∙◌, ℕ, zero, suc, Bool, true, false, not, cond, List, [], All, refl, sym, ap, subst, arith, length, map, filter, inl, inr, zero-add, slice_index_or}
use Rattle.std.specs.List.{count_by, list_any, range_with_len}
use Rattle.std.specs.List.Sorted.{IsNonDecreasingBy, IsPermutation}
use Rattle.std.proofs.lemmas.Bool.{cases_Bool, cases_eq, eq-eqb, ne_eqb, false≢true, eqb-true}
use Rattle.std.proofs.lemmas.List.{get_or-map, length-map}
use Rattle.std.proofs.lemmas.List.Elements.{All-cons, All-head, All-nil, All-tail}
use Rattle.std.proofs.lemmas.List.Sums.{sum_by-cons}
use Rattle.std.proofs.lemmas.List.Sorted.{list_any-IsPermutation, sum_by-IsPermutation}
use Rattle.lrpar_grammar.specs.Grammar.{Grammar, prod_len, start_prod}
use Rattle.lrpar_table_items.specs.Cores.{CoreSet}
use Rattle.lrpar_grammar.specs.Tokens.{has}
use Rattle.lrpar_table_items.specs.Resolution.{AreOnce, AscendFrom, is_complete, is_complete_at, reductions}
use Rattle.lrpar_table_items.specs.CompleteItems.{prods_at}

-- counts with one more element
count_yes : {X : Type 0} (q : X → Bool) (x : X) (xs : List X) → q x ≡ true → count_by q (x ∷ xs) ≡ 1 + count_by q xs
count_yes q x xs h = sum_by-cons (λ y. cond (q y) 1 0) x xs ∙ ap (λ b. cond b 1 0 + count_by q xs) h

count_no : {X : Type 0} (q : X → Bool) (x : X) (xs : List X) → q x ≡ false → count_by q (x ∷ xs) ≡ count_by q xs
count_no q x xs h = sum_by-cons (λ y. cond (q y) 1 0) x xs ∙ ap (λ b. cond b 1 0 + count_by q xs) h ∙ zero-add (count_by q xs)

count_up : {X : Type 0} (q : X → Bool) (x : X) (xs : List X) → count_by q xs ≤ count_by q (x ∷ xs)
count_up q x xs =
    elim (cases_Bool (q x)) [
      | inl passed ↦ let e = count_yes q x xs passed in omega (arith, e)
      | inr failed ↦ let e = count_no q x xs failed in omega (arith, e)
    ]

-- a filtered list has no greater count
count_filter : {X : Type 0} (q r q' : X → Bool) → ((x : X) → r x ≡ true → q x ≡ true → q' x ≡ true) → (xs : List X) → count_by q (filter r xs) ≤ count_by q' xs
count_filter q r q' implies [] = omega arith
count_filter q r q' implies (x ∷ xs) =
    let rest = count_filter q r q' implies xs in
    let up = count_up q' x xs in
    elim (cases_Bool (r x)) [
      | inr failed ↦
          let e : count_by q (filter r (x ∷ xs)) ≡ count_by q (filter r xs) = ap (λ b. count_by q (cond b (x ∷ filter r xs) (filter r xs))) failed in
          omega (arith, e, rest, up)
      | inl passed ↦
          let e : count_by q (filter r (x ∷ xs)) ≡ count_by q (x ∷ filter r xs) = ap (λ b. count_by q (cond b (x ∷ filter r xs) (filter r xs))) passed in
          elim (cases_Bool (q x)) [
            | inl here ↦
                let one = count_yes q x (filter r xs) here in
                let other = count_yes q' x xs (implies x passed here) in omega (arith, e, rest, one, other)
            | inr none ↦ let same = count_no q x (filter r xs) none in omega (arith, e, rest, same, up)
          ]
    ]

-- numbers that ascend from a number on ascend from a lower number on
pub ascend_lower : (a b : ℕ) (ks : List ℕ) → a ≤ b → AscendFrom b ks → AscendFrom a ks
ascend_lower a b [] low up = tt
ascend_lower a b (k ∷ ks) low up = (omega (arith, low, up.0), up.1)

module _ {X : Type 0} (n : X → ℕ) where
  -- numbers that are at least m, and none of them m, are greater
  above : (m : ℕ) (xs : List X) → All (λ y. m ≤ n y) xs → count_by (λ y. n y == m) xs ≡ 0 → All (λ y. m + 1 ≤ n y) xs
  above m [] low none = All-nil (λ y. m + 1 ≤ n y)
  above m (y ∷ ys) low none =
      elim (cases_eq (n y) m) [
        | inl same ↦ let one = count_yes (λ z. n z == m) y ys (eq-eqb (n y) m same) in absurd (omega (arith, one, none))
        | inr other ↦
            let differs : n y ≢ m = other in
            let least : m ≤ n y = All-head (λ z. m ≤ n z) y ys low in
            let rest = count_no (λ z. n z == m) y ys (ne_eqb (n y) m other) in
            All-cons (λ z. m + 1 ≤ n z) y ys (omega (arith, least, differs)) (above m ys (All-tail (λ z. m ≤ n z) y ys low) (sym rest ∙ none))
      ]

  -- sorted numbers, each at most once, ascend
  pub ascend_sorted : (a : ℕ) (xs : List X) → IsNonDecreasingBy n xs → ((m : ℕ) → count_by (λ y. n y == m) xs ≤ 1) → All (λ y. a ≤ n y) xs
      → AscendFrom a (map n xs)
  ascend_sorted a [] sorted once low = tt
  ascend_sorted a (x ∷ xs) sorted once low =
      let later : All (λ y. n x ≤ n y) xs = λ k d below. sorted 0 (suc k) d (omega arith) (omega (arith, below)) in
      let one = count_yes (λ y. n y == n x) x xs (eq-eqb (n x) (n x) refl) in
      let most = once (n x) in (
        All-head (λ y. a ≤ n y) x xs low,
        ascend_sorted (n x + 1) xs (λ i j d up below. sorted (suc i) (suc j) d (omega (arith, up)) (omega (arith, below)))
            (λ m. let more = count_up (λ y. n y == m) x xs in let all = once m in omega (arith, more, all))
            (above (n x) xs later (omega (arith, one, most))),
      )

  -- and so do those that pass a test
  pub ascend_filter : (p : X → Bool) (a : ℕ) (xs : List X) → AscendFrom a (map n xs) → AscendFrom a (map n (filter p xs))
  ascend_filter p a [] up = tt
  ascend_filter p a (x ∷ xs) up =
      elim (cases_Bool (p x)) [
        | inl passed ↦ subst (λ b. AscendFrom a (map n (cond b (x ∷ filter p xs) (filter p xs)))) (sym passed) (up.0, ascend_filter p (n x + 1) xs up.1)
        | inr failed ↦
            subst (λ b. AscendFrom a (map n (cond b (x ∷ filter p xs) (filter p xs)))) (sym failed)
            (ascend_lower a (n x + 1) (map n (filter p xs)) (omega (arith, up.0)) (ascend_filter p (n x + 1) xs up.1))
      ]

-- an image of sorted elements is sorted
pub sorted_image : {X Y : Type 0} (h : X → Y) (n : Y → ℕ) (xs : List X) → IsNonDecreasingBy (λ x. n (h x)) xs → IsNonDecreasingBy n (map h xs)
sorted_image h n [] sorted i j d up below = absurd (omega (arith, below))
sorted_image h n (x ∷ xs) sorted i j d up below =
    let long = length-map (x ∷ xs) h in
    let inside : j < length (x ∷ xs) = omega (arith, below, long) in
    let before : i < length (x ∷ xs) = omega (arith, up, inside) in
    let low = sorted i j x up inside in
    let one = get_or-map h (x ∷ xs) i x d before in
    let two = get_or-map h (x ∷ xs) j x d inside in
    subst (λ y. n y ≤ n (slice_index_or (map h (x ∷ xs)) j d)) (sym one) (subst (λ y. n (h (slice_index_or (x ∷ xs) i x)) ≤ n y) (sym two) low)

-- no number below those that ascend is among them
among_past : (b p : ℕ) (ks : List ℕ) → p < b → AscendFrom b ks → list_any (λ k. k == p) ks ≡ false
among_past b p [] past up = refl
among_past b p (k ∷ ks) past up =
    let other : k ≢ p = omega (arith, past, up.0) in
    ap (λ x. x || list_any (λ k. k == p) ks) (ne_eqb k p other) ∙ among_past (k + 1) p ks (omega (arith, past, up.0)) up.1

-- a range, filtered by whether a number is among ascending ones, gives these numbers
pub filter_among : (test : ℕ → Bool) (n a : ℕ) (ks : List ℕ) → AscendFrom a ks → All (λ k. k < a + n) ks
    → ((p : ℕ) → a ≤ p → p < a + n → test p ≡ list_any (λ k. k == p) ks) → filter test (range_with_len a n) ≡ ks
filter_among test zero a [] up low is = refl
filter_among test zero a (k ∷ ks) up low is = let below : k < a + zero = All-head (λ k. k < a + zero) k ks low in absurd (omega (arith, below, up.0))
filter_among test (suc n) a [] up low is =
    ap (λ b. cond b (a ∷ filter test (range_with_len (a + 1) n)) (filter test (range_with_len (a + 1) n))) (is a (omega arith) (omega arith))
    ∙ filter_among test n (a + 1) [] tt (All-nil (λ k. k < a + 1 + n)) (λ p from below. is p (omega (arith, from)) (omega (arith, below)))
filter_among test (suc n) a (k ∷ ks) up low is =
    let head : k < a + suc n = All-head (λ k. k < a + suc n) k ks low in
    let tail : All (λ k. k < a + suc n) ks = All-tail (λ k. k < a + suc n) k ks low in
    elim (cases_eq k a) [
      | inl same ↦
          let here : test a ≡ true = is a (omega arith) (omega arith) ∙ ap (λ b. b || list_any (λ k. k == a) ks) (eq-eqb k a same) in
          let rest = filter_among test n (a + 1) ks (subst (λ x. AscendFrom (x + 1) ks) same up.1)
          (λ i d below. let one : slice_index_or ks i d < a + suc n = tail i d below in omega (arith, one))
          (λ p from below.
          let other : k ≢ p = omega (arith, same, from) in
          is p (omega (arith, from)) (omega (arith, below)) ∙ ap (λ b. b || list_any (λ k. k == p) ks) (ne_eqb k p other)) in
          ap (λ b. cond b (a ∷ filter test (range_with_len (a + 1) n)) (filter test (range_with_len (a + 1) n))) here ∙ ap (λ s. a ∷ s) rest
          ∙ ap (λ x. x ∷ ks) (sym same)
      | inr other ↦
          let differs : k ≢ a = other in
          let later : a + 1 ≤ k = omega (arith, up.0, differs) in
          let none : test a ≡ false = is a (omega arith) (omega arith) ∙ among_past (a + 1) a (k ∷ ks) (omega arith) (later, up.1) in
          ap (λ b. cond b (a ∷ filter test (range_with_len (a + 1) n)) (filter test (range_with_len (a + 1) n))) none
          ∙ filter_among test n (a + 1) (k ∷ ks) (later, up.1)
          (λ i d below. let one : slice_index_or (k ∷ ks) i d < a + suc n = low i d below in omega (arith, one))
          (λ p from below. is p (omega (arith, from)) (omega (arith, below)))
    ]

and_false : (b : Bool) → (b && false) ≡ false
and_false true = refl
and_false false = refl

and_true : (b : Bool) → (b && true) ≡ b
and_true true = refl
and_true false = refl

-- a production other than the start production is among those at a token exactly if a core of it has the token
among_prods : (start t p : ℕ) (ys : List CoreSet) → p ≢ start
    → list_any (λ k. k == p) (prods_at start ys t) ≡ list_any (λ core. (core.prod == p) && has core.tokens t) ys
among_prods start t p [] other = refl
among_prods start t p (c ∷ ys) other =
    let rest = among_prods start t p ys other in
    let shown = λ (b : Bool). list_any (λ k. k == p) (map (λ (core : CoreSet). core.prod) (cond b (c ∷ filter (λ core. not (core.prod == start) && has core.tokens t) ys) (filter (λ core. not (core.prod == start) && has core.tokens t) ys))) in
    let all = list_any (λ core. (core.prod == p) && has core.tokens t) ys in
    elim (cases_Bool (has c.tokens t)) [
      | inr none ↦
          ap shown (ap (λ b. not (c.prod == start) && b) none ∙ and_false (not (c.prod == start))) ∙ rest
          ∙ sym (ap (λ b. ((c.prod == p) && b) || all) none ∙ ap (λ b. b || all) (and_false (c.prod == p)))
      | inl there ↦
          elim (cases_eq c.prod start) [
            | inl same ↦
                let differs : c.prod ≢ p = λ is. other (sym is ∙ same) in
                ap shown (ap (λ b. not b && has c.tokens t) (eq-eqb c.prod start same)) ∙ rest
                ∙ sym (ap (λ b. (b && has c.tokens t) || all) (ne_eqb c.prod p differs))
            | inr fresh ↦
                ap shown (ap (λ b. not b && has c.tokens t) (ne_eqb c.prod start fresh) ∙ there) ∙ ap (λ b. (c.prod == p) || b) rest
                ∙ sym (ap (λ b. ((c.prod == p) && b) || all) there ∙ ap (λ b. b || all) (and_true (c.prod == p)))
          ]
    ]

-- a test of a filtered list
any_filter : {X : Type 0} (q r q' : X → Bool) → ((x : X) → (r x && q x) ≡ q' x) → (xs : List X) → list_any q (filter r xs) ≡ list_any q' xs
any_filter q r q' same [] = refl
any_filter q r q' same (x ∷ xs) =
    let rest = any_filter q r q' same xs in
    elim (cases_Bool (r x)) [
      | inl passed ↦
          ap (λ b. list_any q (cond b (x ∷ filter r xs) (filter r xs))) passed ∙ ap (λ b. q x || b) rest
          ∙ ap (λ b. b || list_any q' xs) (sym (ap (λ b. b && q x) passed) ∙ same x)
      | inr failed ↦
          ap (λ b. list_any q (cond b (x ∷ filter r xs) (filter r xs))) failed ∙ rest
          ∙ ap (λ b. b || list_any q' xs) (sym (ap (λ b. b && q x) failed) ∙ same x)
    ]

-- the test of a core that is complete
complete_test : (g : Grammar) (t p : ℕ) (core : CoreSet) → ((core.dot == prod_len g core.prod) && ((core.prod == p) && has core.tokens t)) ≡ (is_complete g p core && has core.tokens t)
complete_test g t p core =
    elim (cases_eq core.prod p) [
      | inl same ↦
          ap (λ b. (core.dot == prod_len g core.prod) && (b && has core.tokens t)) (eq-eqb core.prod p same)
          ∙ ap (λ q. (core.dot == prod_len g q) && has core.tokens t) same
          ∙ sym (ap (λ b. (b && (core.dot == prod_len g p)) && has core.tokens t) (eq-eqb core.prod p same))
      | inr other ↦
          ap (λ b. (core.dot == prod_len g core.prod) && (b && has core.tokens t)) (ne_eqb core.prod p other)
          ∙ and_false (core.dot == prod_len g core.prod)
          ∙ sym (ap (λ b. (b && (core.dot == prod_len g p)) && has core.tokens t) (ne_eqb core.prod p other))
    ]

-- a complete core of the production
complete_both : (g : Grammar) (p : ℕ) (core : CoreSet) → (core.dot == prod_len g core.prod) ≡ true → (core.prod == p) ≡ true
    → ((core.prod == p) && (core.dot == prod_len g p)) ≡ true
complete_both g p core ends here =
    ap (λ b. b && (core.dot == prod_len g p)) here ∙ ap (λ q. core.dot == prod_len g q) (sym (eqb-true core.prod p here)) ∙ ends

-- the productions at a token are others than the start production
prods_below : (start t : ℕ) (ys : List CoreSet) → All (λ (core : CoreSet). core.prod < start + 1) ys → All (λ k. k < start) (prods_at start ys t)
prods_below start t [] known = All-nil (λ k. k < start)
prods_below start t (c ∷ ys) known =
    let rest = prods_below start t ys (All-tail (λ (core : CoreSet). core.prod < start + 1) c ys known) in
    let low : c.prod < start + 1 = All-head (λ (core : CoreSet). core.prod < start + 1) c ys known in
    let test : CoreSet → Bool = λ core. not (core.prod == start) && has core.tokens t in
    elim (cases_Bool (test c)) [
      | inl passed ↦
          let other : c.prod ≢ start = λ same. false≢true (sym (ap (λ b. not b && has c.tokens t) (eq-eqb c.prod start same)) ∙ passed) in
          subst (λ b. All (λ k. k < start) (map (λ (core : CoreSet). core.prod) (cond b (c ∷ filter test ys) (filter test ys)))) (sym passed)
          (All-cons (λ k. k < start) c.prod (prods_at start ys t) (omega (arith, low, other)) rest)
      | inr failed ↦ subst (λ b. All (λ k. k < start) (map (λ (core : CoreSet). core.prod) (cond b (c ∷ filter test ys) (filter test ys)))) (sym failed) rest
    ]

module _ (g : Grammar) (cores complete : List CoreSet)
    (moved : IsPermutation (filter (λ core. core.dot == prod_len g core.prod) cores) complete) where
  -- one of the complete cores is of the production and has the token exactly if there is a complete item
  pub complete_is : (t p : ℕ) → list_any (λ core. (core.prod == p) && has core.tokens t) complete ≡ is_complete_at g cores t p
  complete_is t p =
      let test : CoreSet → Bool = λ core. (core.prod == p) && has core.tokens t in
      sym (list_any-IsPermutation test (filter (λ core. core.dot == prod_len g core.prod) cores) complete moved)
      ∙ any_filter test (λ core. core.dot == prod_len g core.prod) (λ core. is_complete g p core && has core.tokens t) (complete_test g t p) cores

  module _ (sorted : IsNonDecreasingBy (λ (core : CoreSet). core.prod) complete) (once : AreOnce cores)
      (known : All (λ (core : CoreSet). core.prod < start_prod g + 1) complete) where
    counted : (p : ℕ) → count_by (λ (core : CoreSet). core.prod == p) complete ≤ 1
    counted p =
        let count : CoreSet → ℕ = λ core. cond (core.prod == p) 1 0 in
        let same = sum_by-IsPermutation count (filter (λ core. core.dot == prod_len g core.prod) cores) complete moved in
        let fewer = count_filter (λ (core : CoreSet). core.prod == p) (λ core. core.dot == prod_len g core.prod)
        (λ core. (core.prod == p) && (core.dot == prod_len g p))
        (λ core ends here. complete_both g p core ends here) cores in
        let most = once p (prod_len g p) in
        omega (arith, same, fewer, most)

    -- their productions at a token are those with a complete item
    pub prods_are : (t : ℕ) → prods_at (start_prod g) complete t ≡ reductions g cores t
    prods_are t =
        let start = start_prod g in
        let low : All (λ (core : CoreSet). 0 ≤ core.prod) complete = λ k d below. omega arith in
        let up = ascend_sorted (λ (core : CoreSet). core.prod) 0 complete sorted counted low in
        let kept = ascend_filter (λ (core : CoreSet). core.prod) (λ core. not (core.prod == start) && has core.tokens t) 0 complete up in
        let below = prods_below start t complete known in
        let least : All (λ k. k < 0 + start) (prods_at start complete t) =
        λ k d within. let one : slice_index_or (prods_at start complete t) k d < start = below k d within in omega (arith, one) in
        sym (filter_among (is_complete_at g cores t) start 0 (prods_at start complete t) kept least (λ p from under.
        let other : p ≢ start = omega (arith, under) in
        sym (complete_is t p) ∙ sym (among_prods start t p complete other)))
