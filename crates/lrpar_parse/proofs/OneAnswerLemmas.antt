-- A recoverer of two has at most one answer at each error point if both have.
use Rattle.std.proofs.Common.{inl, inr, ℕ, List, subst}
use Rattle.lrpar_table_check.specs.Checked.{Checked}
use Rattle.lrpar_parse_repair.specs.AlwaysRepairs.{FirstOrSecond, SomeWorks}
use Rattle.lrpar_parse_repair.specs.Asked.{Asked, allowed_at, asked_at}
use Rattle.lrpar_parse_repair.specs.Sequences.{PlainStep}
use Rattle.lrpar_parse.specs.RepairLaws.{SuppliesOne}

-- an answer of the first works in one case and fails in the other, so both answers are of the first, or both of the second
pub one_of_two : {X : Type 0} (token : X → ℕ) (first second : Asked X → List (List PlainStep) → Type 0) (d : Checked) (k : ℕ)
    → SuppliesOne (allowed_at first d k) → SuppliesOne (allowed_at second d k) → SuppliesOne (allowed_at (FirstOrSecond token first second) d k)
one_of_two token first second d k one other point a b (inl (x, works)) (inl (y, _)) = one point a b x y
one_of_two token first second d k one other point a b (inl (x, works)) (inr ((tried, may, fails), _)) =
    absurd (fails (subst (SomeWorks token (asked_at d k point)) (one point a tried x may) works))
one_of_two token first second d k one other point a b (inr ((tried, may, fails), _)) (inl (y, works)) =
    absurd (fails (subst (SomeWorks token (asked_at d k point)) (one point b tried y may) works))
one_of_two token first second d k one other point a b (inr (_, x)) (inr (_, y)) = other point a b x y
