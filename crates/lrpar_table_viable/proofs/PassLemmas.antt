-- A pass that returns whether anything was new, as far as it has come.
use Rattle.std.proofs.Common.{◌≡◌, ◌<◌, ◌≤◌, ◌+◌, ◌⊎◌, ◌∙◌, sym, ap, subst, inl, inr, arith, ℕ, Bool, true, false}
use Rattle.std.specs.Bool.{OnFalse, OnTrue}
use Rattle.std.proofs.lemmas.Bool.{OnFalse_at, OnFalse_from, OnTrue_at, OnTrue_from, cases_Bool, cases_eq, false≢true}

-- either something was new, so that fewer are left; or all is as before, and the first n are done
pub record IsPass {X : Type 0} (size : X → ℕ) (done : X → ℕ → Type 0) (old new : X) (n : ℕ) (grown : Bool) : Type 0 where
  pub less : OnTrue grown (size new < size old)
  pub same : OnFalse grown ((new ≡ old) × ((p : ℕ) → p < n → done new p))

-- one step more: something was new, or nothing was
pub pass_more : {X : Type 0} (size : X → ℕ) (done : X → ℕ → Type 0) (old now new : X) (n : ℕ) (grown one next : Bool) → IsPass size done old now n grown
    → OnTrue one (size new < size now) → OnFalse one (new ≡ now) → OnFalse one (done new n)
    → ((one ≡ true) × (next ≡ true)) ⊎ ((one ≡ false) × (next ≡ grown)) → IsPass size done old new (n + 1) next
pass_more {X} size done old now new n grown one next so_far less same here (inl was) = record {
  less = OnTrue_from next _ (λ _. let fewer = OnTrue_at was.0 less in omega (arith, fewer, no_more));
  same = OnFalse_from next _ (λ fell. absurd (false≢true (sym fell ∙ was.1)));
}
  where
    no_more : size now ≤ size old
    no_more =
        elim (cases_Bool grown) as (λ _. size now ≤ size old) [
          | inl held ↦ let fewer = OnTrue_at held so_far.less in omega (arith, fewer)
          | inr fell ↦ let equal = ap size (OnFalse_at fell so_far.same).0 in omega (arith, equal)
        ]
pass_more {X} size done old now new n grown one next so_far less same here (inr was) =
    let kept : new ≡ now = OnFalse_at was.0 same in
    record {
      less = OnTrue_from next _ (λ held. subst (λ (x : X). size x < size old) (sym kept) (OnTrue_at (sym was.1 ∙ held) so_far.less));
      same = OnFalse_from next _ (λ fell.
          let before = OnFalse_at (sym was.1 ∙ fell) so_far.same in (
            kept ∙ before.0,
            λ p low. elim (cases_eq p n) as (λ _. done new p) [
              | inl last ↦ subst (done new) (sym last) (OnFalse_at was.0 here)
              | inr other ↦ subst (λ (x : X). done x p) (sym kept) (before.1 p (omega (arith, low, other)))
            ],
          ));
    }
