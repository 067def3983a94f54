-- How many members of a list have the same numbers.
use Rattle.std.proofs.Common.{◌≡◌, ◌≢◌, ◌<◌, ◌≤◌, ◌+◌, ℕ, true, false, cond, List, [], ◌∷◌, ◌++◌, bytes_eq, drop, length, take, ap, inl, inr, subst, sym, ◌∙◌, arith}
use Rattle.std.proofs.lemmas.Bool.{cases_lt, false_from_ne_true}
use Rattle.std.proofs.lemmas.List.{take-take}
use Rattle.std.proofs.lemmas.List.Sums.{count_by_more_no, count_by_more_yes, sum_by-take-drop, sum_by-take-le, sum_by_push}
use Rattle.std.proofs.lemmas.Slice.Eq.{bytes_eq-Decides}
use Rattle.lrpar_grammar.specs.Spelled.{count_of, numbers_at}

-- the test whether numbers are the same
pub same_yes : (x y : List ℕ) → x ≡ y → bytes_eq x y ≡ true
same_yes x y same = (bytes_eq-Decides x y).1 same

pub same_no : (x y : List ℕ) → x ≢ y → bytes_eq x y ≡ false
same_no x y other = false_from_ne_true (bytes_eq x y) (λ same. other ((bytes_eq-Decides x y).0 same))

-- one more member that is counted
pub count_more_yes : (q : List ℕ) (xs : List (List ℕ)) (i : ℕ) → i < length xs → numbers_at xs i ≡ q → count_of q (take (i + 1) xs) ≡ count_of q (take i xs) + 1
count_more_yes q xs i within is = count_by_more_yes (λ y. bytes_eq q y) xs i [] within (same_yes q (numbers_at xs i) (sym is))

-- one more member that isn't
pub count_more_no : (q : List ℕ) (xs : List (List ℕ)) (i : ℕ) → i < length xs → numbers_at xs i ≢ q → count_of q (take (i + 1) xs) ≡ count_of q (take i xs)
count_more_no q xs i within other = count_by_more_no (λ y. bytes_eq q y) xs i [] within (same_no q (numbers_at xs i) (λ same. other (sym same)))

-- the same for a member at the end
pub count_push_yes : (q : List ℕ) (xs : List (List ℕ)) (y : List ℕ) → y ≡ q → count_of q (xs ++ y ∷ []) ≡ count_of q xs + 1
count_push_yes q xs y is =
    sum_by_push (λ (x : List ℕ). cond (bytes_eq q x) 1 0) xs y ∙ ap (λ b. count_of q xs + cond b 1 0) (same_yes q y (sym is))

pub count_push_no : (q : List ℕ) (xs : List (List ℕ)) (y : List ℕ) → y ≢ q → count_of q (xs ++ y ∷ []) ≡ count_of q xs
count_push_no q xs y other =
    let none : count_of q xs + 0 ≡ count_of q xs = omega arith in
    sum_by_push (λ (x : List ℕ). cond (bytes_eq q x) 1 0) xs y ∙ ap (λ b. count_of q xs + cond b 1 0) (same_no q y (λ same. other (sym same))) ∙ none

-- a longer front has no fewer
pub count_front : (q : List ℕ) (xs : List (List ℕ)) (j k : ℕ) → j ≤ k → count_of q (take j xs) ≤ count_of q (take k xs)
count_front q xs j k less =
    subst (λ s. count_of q s ≤ count_of q (take k xs)) (take-take j k xs less) (sum_by-take-le (λ (x : List ℕ). cond (bytes_eq q x) 1 0) (take k xs) j)

-- fewer before a member than before a later place
pub count_between : (q : List ℕ) (xs : List (List ℕ)) (j k : ℕ) → j < k → j < length xs → numbers_at xs j ≡ q → count_of q (take j xs) < count_of q (take k xs)
count_between q xs j k before within is =
    let more = count_more_yes q xs j within is in
    let front : count_of q (take (j + 1) xs) ≤ count_of q (take k xs) = count_front q xs (j + 1) k (omega arith) in
    omega arith

-- fewer before a member than in all
pub count_before : (q : List ℕ) (xs : List (List ℕ)) (j : ℕ) → j < length xs → numbers_at xs j ≡ q → count_of q (take j xs) < count_of q xs
count_before q xs j within is =
    let more = count_more_yes q xs j within is in
    let front : count_of q (take (j + 1) xs) ≤ count_of q xs = sum_by-take-le (λ (x : List ℕ). cond (bytes_eq q x) 1 0) xs (j + 1) in
    omega arith

-- those before a place and those from it on
pub count_split : (q : List ℕ) (xs : List (List ℕ)) (i : ℕ) → count_of q (take i xs) + count_of q (drop i xs) ≡ count_of q xs
count_split q xs i = sum_by-take-drop (λ (x : List ℕ). cond (bytes_eq q x) 1 0) xs i

-- members with as many before them are one
pub same_nth : (q : List ℕ) (xs : List (List ℕ)) (j k : ℕ) → j < length xs → k < length xs → numbers_at xs j ≡ q → numbers_at xs k ≡ q
    → count_of q (take j xs) ≡ count_of q (take k xs) → j ≡ k
same_nth q xs j k j_within k_within j_is k_is same =
    elim (cases_lt j k) [
      | inl less ↦ let apart = count_between q xs j k less j_within j_is in absurd (omega arith)
      | inr not_less ↦
          elim (cases_lt k j) [
            | inl more ↦ let apart = count_between q xs k j more k_within k_is in absurd (omega arith)
            | inr not_more ↦ omega arith
          ]
    ]
