-- What the derived comparison of faults says about their contents.
use Rattle.std.proofs.Common.{◌≡◌, ◌↔◌, ℕ, Bool, true, false, IsTrue, refl}
use Rattle.std.specs.Prelude.{◌==◌}
use Rattle.lrpar_parse.specs.declared.fault.ParseFault.{ParseFault}
use Rattle.lrpar_parse.specs.declared.fault.ParseFault.TheVariants.{BadToken, StartsDecrease, Memory}
use Rattle.lrpar_parse_repair.proofs.StepComparisonLemmas.{always, by_number, never}

lexeme_of : ParseFault → ℕ
lexeme_of (BadToken i) = i
lexeme_of (StartsDecrease i) = i
lexeme_of Memory = 0

-- a comparison of faults that is right for each kind is equality
pub fault_alike : (same : ParseFault → ParseFault → Bool)
    → (bad : (i j : ℕ) → same (BadToken i) (BadToken j) ≡ (i == j))
    → (decrease : (i j : ℕ) → same (StartsDecrease i) (StartsDecrease j) ≡ (i == j))
    → (memory : same Memory Memory ≡ true)
    → (bad_decrease : (i j : ℕ) → same (BadToken i) (StartsDecrease j) ≡ false) → (bad_memory : (i : ℕ) → same (BadToken i) Memory ≡ false)
    → (decrease_bad : (i j : ℕ) → same (StartsDecrease i) (BadToken j) ≡ false) → (decrease_memory : (i : ℕ) → same (StartsDecrease i) Memory ≡ false)
    → (memory_bad : (j : ℕ) → same Memory (BadToken j) ≡ false) → (memory_decrease : (j : ℕ) → same Memory (StartsDecrease j) ≡ false)
    → (x y : ParseFault) → IsTrue (same x y) ↔ (x ≡ y)
unfolding lexeme_of
fault_alike same bb dd mm bd bm db dm mb md (BadToken i) (BadToken j) = by_number BadToken lexeme_of (λ _. refl) _ i j (bb i j)
fault_alike same bb dd mm bd bm db dm mb md (BadToken i) (StartsDecrease j) = never _ _ _ (bd i j) (λ e. cc)
fault_alike same bb dd mm bd bm db dm mb md (BadToken i) Memory = never _ _ _ (bm i) (λ e. cc)
fault_alike same bb dd mm bd bm db dm mb md (StartsDecrease i) (BadToken j) = never _ _ _ (db i j) (λ e. cc)
fault_alike same bb dd mm bd bm db dm mb md (StartsDecrease i) (StartsDecrease j) = by_number StartsDecrease lexeme_of (λ _. refl) _ i j (dd i j)
fault_alike same bb dd mm bd bm db dm mb md (StartsDecrease i) Memory = never _ _ _ (dm i) (λ e. cc)
fault_alike same bb dd mm bd bm db dm mb md Memory (BadToken j) = never _ _ _ (mb j) (λ e. cc)
fault_alike same bb dd mm bd bm db dm mb md Memory (StartsDecrease j) = never _ _ _ (md j) (λ e. cc)
fault_alike same bb dd mm bd bm db dm mb md Memory Memory = always _ _ mm
