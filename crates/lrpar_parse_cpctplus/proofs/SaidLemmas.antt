-- Costs that a function says, token by token.
use Rattle.std.proofs.Common.{◌≡◌, ◌<◌, ◌+◌, ◌∙◌, ℕ, List, [], ◌∷◌, ◌++◌, ap, arith, below_more, length, subst, sym}
use Rattle.std.proofs.lemmas.List.{get_or_append_left, get_or_at, length-append}
use Rattle.lrpar_parse_cpctplus.specs.Costs.{token_cost}
use Rattle.lrpar_parse_cpctplus.specs.Said.{AreSaid}

module _ (says : ℕ → ℕ → Type 0) where
  pub said_none : (xs : List ℕ) → xs ≡ [] → AreSaid says 0 xs
  said_none xs none = record { long = ap (λ (l : List ℕ). length l) none; each = λ t below. absurd (omega (arith, below)) }

  -- one token more
  pub said_more : (n : ℕ) (xs zs : List ℕ) (c : ℕ) → AreSaid says n xs → zs ≡ xs ++ c ∷ [] → says n c → AreSaid says (n + 1) zs
  said_more n xs zs c h pushed here =
      let at_end : token_cost zs n ≡ c = ap (λ (l : List ℕ). token_cost l n) pushed ∙ get_or_at xs c [] 1 n h.long in
      let before : (t : ℕ) → t < n → says t (token_cost zs t) = λ t below.
      let same : token_cost zs t ≡ token_cost xs t =
      ap (λ (l : List ℕ). token_cost l t) pushed ∙ get_or_append_left xs (c ∷ []) 1 t (omega (arith, below, h.long)) in
      subst (λ (k : ℕ). says t k) (sym same) (h.each t below) in
      record {
        long = omega (arith, ap (λ (l : List ℕ). length l) pushed, length-append xs (c ∷ []), h.long);
        each = below_more (λ (t : ℕ). says t (token_cost zs t)) n before (subst (λ (k : ℕ). says n k) (sym at_end) here);
      }

  pub said_all : (n count : ℕ) (xs : List ℕ) → AreSaid says n xs → n ≡ count → AreSaid says count xs
  said_all n count xs h same = subst (λ (k : ℕ). AreSaid says k xs) same h
