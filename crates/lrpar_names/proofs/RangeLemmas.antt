-- Searches in the numbers from one number up to another.
use Rattle.std.proofs.Common.{◌≡◌, ℕ, suc, ◌+◌, ◌-◌, ◌<◌, ◌≤◌, Bool, true, false, Some, None, ◌∷◌, ◌∙◌, ap, arith}
use Rattle.std.specs.List.{find, range_with_len}
use Rattle.std.proofs.lemmas.Bool.{cond-false, cond-true}

-- the first number, and the others
pub range_first : (i n : ℕ) → i < n → range_with_len i (n - i) ≡ i ∷ range_with_len (i + 1) (n - (i + 1))
range_first i n less =
    let count : n - i ≡ suc (n - (i + 1)) = omega arith in
    ap (range_with_len i) count

-- the first number passes
pub find_here : (test : ℕ → Bool) (i n : ℕ) → i < n → test i ≡ true → find test (range_with_len i (n - i)) ≡ Some i
find_here test i n less passes = ap (find test) (range_first i n less) ∙ cond-true (test i) _ _ passes

-- it doesn't
pub find_later : (test : ℕ → Bool) (i n : ℕ) → i < n → test i ≡ false
    → find test (range_with_len i (n - i)) ≡ find test (range_with_len (i + 1) (n - (i + 1)))
find_later test i n less fails = ap (find test) (range_first i n less) ∙ cond-false (test i) _ _ fails

-- no number is left
pub find_none : (test : ℕ → Bool) (i n : ℕ) → n ≤ i → find test (range_with_len i (n - i)) ≡ None
find_none test i n over =
    let none : n - i ≡ 0 = omega arith in
    ap (λ k. find test (range_with_len i k)) none
