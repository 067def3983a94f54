-- A pass that says whether anything was new, as far as it has come.
use Rattle.std.proofs.Common.{◌≡◌, ◌<◌, ◌≤◌, ◌+◌, ◌⊎◌, ◌∙◌, refl, sym, ap, subst, inl, inr, arith, ℕ, Bool, true, false, List, ◌++◌, drop, length, take}
use Rattle.std.specs.Bool.{OnFalse, OnTrue}
use Rattle.std.proofs.lemmas.Bool.{OnFalse_at, OnFalse_from, OnTrue_at, OnTrue_from, cases_eq, false≢true}
use Rattle.lrpar_table_first.proofs.GrowthLemmas.{lent_back}

bool_cases : (b : Bool) → (b ≡ true) ⊎ (b ≡ false)
bool_cases true = inl refl
bool_cases false = inr refl

module _ {X : Type 0} (size : X → ℕ) (done : X → ℕ → Type 0) (old now new : X) (n : ℕ) (grown one next : Bool)
    (less : OnTrue grown (size now < size old)) (same : OnFalse grown ((now ≡ old) × ((p : ℕ) → p < n → done now p)))
    (one_less : OnTrue one (size new < size now)) (one_same : OnFalse one (new ≡ now)) (one_done : OnFalse one (done new n)) where
  no_more : size now ≤ size old
  no_more =
      elim (bool_cases grown) [
        | inl yes_grown ↦ let fewer = OnTrue_at yes_grown less in omega (arith, fewer)
        | inr not_grown ↦ let equal = ap size (OnFalse_at not_grown same).0 in omega (arith, equal)
      ]

  -- something was new
  pub pass_grows : one ≡ true → next ≡ true
      → OnTrue next (size new < size old) × OnFalse next ((new ≡ old) × ((p : ℕ) → p < n + 1 → done new p))
  pass_grows was is = (
    OnTrue_from next _ (λ h. let fewer = OnTrue_at was one_less in omega (arith, fewer, no_more)),
    OnFalse_from next _ (λ h. absurd (false≢true (sym h ∙ is))),
  )

  -- nothing was
  pub pass_stays : one ≡ false → next ≡ grown
      → OnTrue next (size new < size old) × OnFalse next ((new ≡ old) × ((p : ℕ) → p < n + 1 → done new p))
  pass_stays was is =
      let here = OnFalse_at was one_same in (
        OnTrue_from next _ (λ h. subst (λ (x : X). size x < size old) (sym here) (OnTrue_at (sym is ∙ h) less)),
        OnFalse_from next _ (λ h.
            let before = OnFalse_at (sym is ∙ h) same in (
              here ∙ before.0,
              λ p low. elim (cases_eq p n) as (λ _. done new p) [
                | inl last ↦ subst (done new) (sym last) (OnFalse_at was one_done)
                | inr other ↦ subst (λ (x : X). done x p) (sym here) (before.1 p (omega (arith, low, other)))
              ],
            )),
      )

-- a whole list that was lent comes back as it was left
pub whole_back : {X : Type 0} (items lent new : List X) (n : ℕ) → n ≡ length items → lent ≡ items → length new ≡ length lent
    → take n (new ++ drop (length new) items) ≡ new
whole_back items lent new n full same kept = lent_back items new n (sym full) (kept ∙ ap (λ xs. length xs) same ∙ sym full)
