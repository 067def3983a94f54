-- The tokens after a change: what comes later is appended to them, whatever the change.
use Rattle.std.proofs.Common.{◌≡◌, ◌<◌, ◌≤◌, ◌+◌, ◌∙◌, sym, ap, subst, arith, append-nil, append_assoc, ℕ, List, [], ◌∷◌, ◌++◌, drop, length, take, get_or, slice_get, Some}
use Rattle.std.proofs.Math.Seq.{drop-length}
use Rattle.std.proofs.lemmas.List.{drop-append-le, drop_more, get_or-take, length-take-le, take-append-drop, take-append-le, take_more}
use Rattle.std.proofs.lemmas.Option.{get_or_from_slice_get, slice_get_within}
use Rattle.lrpar_parse_suggestions.specs.Changed.{PlainChange, changed, put_in, taken_out}

-- the first tokens of some first tokens
pub take_take : (p q : ℕ) (xs : List ℕ) → p ≤ q → q ≤ length xs → take p (take q xs) ≡ take p xs
take_take p q xs low within =
    let long : length (take q xs) ≡ q = length-take-le q xs within in
    sym (take-append-le p (take q xs) (drop q xs) (omega (arith, long, low))) ∙ ap (λ (l : List ℕ). take p l) (take-append-drop q xs)

-- the tokens that follow the first ones, up to a later place
pub take_on : (q r : ℕ) (xs : List ℕ) → q ≤ r → r ≤ length xs → take r xs ≡ take q xs ++ drop q (take r xs)
take_on q r xs low within =
    sym (take-append-drop q (take r xs)) ∙ ap (λ (l : List ℕ). l ++ drop q (take r xs)) (take_take q r xs low within)

module _ (p : ℕ) (change : PlainChange) where
  -- what is appended to a text is appended to the changed one
  changed_append : (xs ys : List ℕ) → p + taken_out change ≤ length xs → changed (xs ++ ys) p change ≡ changed xs p change ++ ys
  changed_append xs ys within =
      let front : take p (xs ++ ys) ≡ take p xs = take-append-le p xs ys (omega (arith, within)) in
      let back : drop (p + taken_out change) (xs ++ ys) ≡ drop (p + taken_out change) xs ++ ys = drop-append-le (p + taken_out change) xs ys within in
      ap (λ (l : List ℕ). l ++ put_in change ++ drop (p + taken_out change) (xs ++ ys)) front
      ∙ ap (λ (l : List ℕ). take p xs ++ put_in change ++ l) back
      ∙ sym (append_assoc (take p xs ++ put_in change) (drop (p + taken_out change) xs) ys)

  -- one more token of the text
  pub changed_more : (tokens : List ℕ) (q t : ℕ) → p + taken_out change ≤ q → slice_get tokens q ≡ Some t
      → changed (take (q + 1) tokens) p change ≡ changed (take q tokens) p change ++ t ∷ []
  changed_more tokens q t after at =
      let within : q < length tokens = slice_get_within tokens q t at in
      let long : length (take q tokens) ≡ q = length-take-le q tokens (omega (arith, within)) in
      let more : take (q + 1) tokens ≡ take q tokens ++ t ∷ [] =
      take_more tokens q 0 within ∙ ap (λ (n : ℕ). take q tokens ++ n ∷ []) (get_or_from_slice_get tokens q t 0 at) in
      ap (λ (l : List ℕ). changed l p change) more ∙ changed_append (take q tokens) (t ∷ []) (omega (arith, long, after))

  -- up to a later place
  pub changed_on : (tokens : List ℕ) (q r : ℕ) → p + taken_out change ≤ q → q ≤ r → r ≤ length tokens
      → changed (take r tokens) p change ≡ changed (take q tokens) p change ++ drop q (take r tokens)
  changed_on tokens q r after low within =
      let long : length (take q tokens) ≡ q = length-take-le q tokens (omega (arith, low, within)) in
      ap (λ (l : List ℕ). changed l p change) (take_on q r tokens low within)
      ∙ changed_append (take q tokens) (drop q (take r tokens)) (omega (arith, long, after))

  -- right after the change
  pub changed_here : (tokens : List ℕ) → p + taken_out change ≤ length tokens
      → changed (take (p + taken_out change) tokens) p change ≡ take p tokens ++ put_in change
  changed_here tokens within =
      let n = p + taken_out change in
      let long : length (take n tokens) ≡ n = length-take-le n tokens within in
      let none : drop n (take n tokens) ≡ [] = subst (λ (k : ℕ). drop k (take n tokens) ≡ []) long (drop-length (take n tokens)) in
      ap (λ (l : List ℕ). l ++ put_in change ++ drop n (take n tokens)) (take_take p n tokens (omega arith) within)
      ∙ ap (λ (l : List ℕ). take p tokens ++ put_in change ++ l) none
      ∙ append-nil (take p tokens ++ put_in change)

-- the tokens up to a later place, and the token that comes next
pub next_there : (tokens : List ℕ) (q r t : ℕ) → q < r → r ≤ length tokens → slice_get tokens q ≡ Some t
    → drop q (take r tokens) ≡ t ∷ drop (q + 1) (take r tokens)
next_there tokens q r t low within at =
    let long : length (take r tokens) ≡ r = length-take-le r tokens within in
    let here : get_or (take r tokens) q 0 ≡ t = get_or-take r tokens q 0 low ∙ get_or_from_slice_get tokens q t 0 at in
    drop_more (take r tokens) q 0 (omega (arith, long, low)) ∙ ap (λ (n : ℕ). n ∷ drop (q + 1) (take r tokens)) here
