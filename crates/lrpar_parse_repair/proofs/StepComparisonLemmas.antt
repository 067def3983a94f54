-- What the derived comparison of steps says about their contents.
use Rattle.std.proofs.Common.{◌≡◌, ◌↔◌, ℕ, Bool, true, false, IsTrue, refl, sym, ap, ◌∙◌}
use Rattle.std.specs.Prelude.{◌==◌}
use Rattle.std.proofs.lemmas.Bool.{eqb-true, eq-eqb}
use Rattle.lrpar_grammar_places.specs.declared.span.TIdx.{TIdx}
use Rattle.lrpar_parse_repair.specs.PlainSteps.{plain_step}
use Rattle.lrpar_parse_repair.specs.Sequences.{PlainStep, PlainInsert, PlainDelete, PlainShift}
use Rattle.lrpar_parse_repair.specs.declared.repair_step.RepairStep.{RepairStep}
use Rattle.lrpar_parse_repair.specs.declared.repair_step.RepairStep.TheVariants.{Insert, Delete, Shift}

-- values of one kind, each with a number, which are equal if and only if these are
pub by_number : {A : Type 0} (kind : ℕ → A) (unkind : A → ℕ) → ((n : ℕ) → unkind (kind n) ≡ n) → (same : Bool) (m n : ℕ) → same ≡ (m == n)
    → IsTrue same ↔ (kind m ≡ kind n)
by_number kind unkind back same m n is =
    ((λ h. ap kind (eqb-true m n (sym is ∙ h))), (λ e. is ∙ eq-eqb m n (sym (back m) ∙ ap unkind e ∙ back n)))

-- values that are not equal
pub never : {A : Type 0} (same : Bool) (x y : A) → same ≡ false → ¬ (x ≡ y) → IsTrue same ↔ (x ≡ y)
never same x y is differ = ((λ h. absurd (let no : ⊥ = cc in no)), (λ e. absurd (differ e)))

-- values that are one
pub always : {A : Type 0} (same : Bool) (x : A) → same ≡ true → IsTrue same ↔ (x ≡ x)
always same x is = ((λ _. refl), (λ _. is))

token_of : PlainStep → ℕ
token_of (PlainInsert t) = t
token_of PlainDelete = 0
token_of PlainShift = 0

-- a comparison of steps that is right for each kind is that of the steps that contracts see
pub step_alike : {S : Type 0} (index : S → ℕ) (same : RepairStep S → RepairStep S → Bool)
    → (inserts : (t u : TIdx S) → same (Insert t) (Insert u) ≡ (index t.0 == index u.0))
    → (deletes : same Delete Delete ≡ true) → (shifts : same Shift Shift ≡ true)
    → (insert_delete : (t : TIdx S) → same (Insert t) Delete ≡ false) → (insert_shift : (t : TIdx S) → same (Insert t) Shift ≡ false)
    → (delete_insert : (u : TIdx S) → same Delete (Insert u) ≡ false) → (delete_shift : same Delete Shift ≡ false)
    → (shift_insert : (u : TIdx S) → same Shift (Insert u) ≡ false) → (shift_delete : same Shift Delete ≡ false)
    → (x y : RepairStep S) → IsTrue (same x y) ↔ (plain_step index x ≡ plain_step index y)
unfolding token_of
step_alike index same ii dd ss ind ins di ds si sd (Insert t) (Insert u) = by_number PlainInsert token_of (λ _. refl) _ (index t.0) (index u.0) (ii t u)
step_alike index same ii dd ss ind ins di ds si sd (Insert t) Delete = never _ _ _ (ind t) (λ e. cc)
step_alike index same ii dd ss ind ins di ds si sd (Insert t) Shift = never _ _ _ (ins t) (λ e. cc)
step_alike index same ii dd ss ind ins di ds si sd Delete (Insert u) = never _ _ _ (di u) (λ e. cc)
step_alike index same ii dd ss ind ins di ds si sd Delete Delete = always _ _ dd
step_alike index same ii dd ss ind ins di ds si sd Delete Shift = never _ _ _ ds (λ e. cc)
step_alike index same ii dd ss ind ins di ds si sd Shift (Insert u) = never _ _ _ (si u) (λ e. cc)
step_alike index same ii dd ss ind ins di ds si sd Shift Delete = never _ _ _ sd (λ e. cc)
step_alike index same ii dd ss ind ins di ds si sd Shift Shift = always _ _ ss
