-- Rows of bits, of which the bits below a number are kept.
use Rattle.std.proofs.Common.{◌≡◌, ℕ, ◌+◌, ◌<◌, ◌≤◌, ◌&&◌, nat_lt, Bool, List, [], ◌∷◌, ◌++◌, length, get_or, inl, inr, sym, ◌∙◌, ap, arith}
use Rattle.std.proofs.Math.Bool.{and-false}
use Rattle.std.proofs.lemmas.Bool.{cases_lt}
use Rattle.std.proofs.lemmas.List.{get_or_append_left, get_or_past, get_or_push, get_or_read}
use Rattle.lrpar_grammar.specs.Tokens.{has}
use Rattle.lrpar_names.specs.FirstTokens.{AreBitsBelow, can_begin}

-- the rows below i have the bits below `end` of theirs
abbrev pub SameBelow : List (List Bool) → ℕ → List (List Bool) → ℕ → Type 0
SameBelow rows end below i = (r t : ℕ) → r < i → can_begin below r t ≡ (nat_lt t end && can_begin rows r t)

-- one row more
pub same_more : (rows below : List (List Bool)) (end i : ℕ) (row cut : List Bool) → i < length rows → length below ≡ i → row ≡ get_or rows i row
    → AreBitsBelow row end cut → SameBelow rows end below i → SameBelow rows end (below ++ cut ∷ []) (i + 1)
same_more rows below end i row cut within len is bits same r t less = elim (cases_lt r i) [
  | inl before ↦ ap (λ b. has b t) (get_or_append_left below (cut ∷ []) [] r (omega arith)) ∙ same r t before
  | inr from ↦
      let here : r ≡ i = omega arith in
      let at : length below ≡ r = omega arith in
      ap (λ b. has b t) (get_or_push below cut [] r at) ∙ bits.same t
      ∙ ap (λ b. nat_lt t end && has b t) (get_or_read rows i row within is [])
      ∙ ap (λ k. nat_lt t end && can_begin rows k t) (sym here)
]

-- past the last row there are no bits
pub same_all : (rows below : List (List Bool)) (end i : ℕ) → length below ≡ i → length rows ≤ i → SameBelow rows end below i
    → (r t : ℕ) → can_begin below r t ≡ (nat_lt t end && can_begin rows r t)
same_all rows below end i len over same r t = elim (cases_lt r i) [
  | inl before ↦ same r t before
  | inr from ↦
      ap (λ b. has b t) (get_or_past below r [] (omega arith)) ∙ sym (and-false (nat_lt t end))
      ∙ sym (ap (λ b. nat_lt t end && has b t) (get_or_past rows r [] (omega arith)))
]
