-- Equality of repairs is symmetric and transitive if equality of lexemes is.
use Rattle.std.specs.Prelude.{◌≡◌, Bool, true, ◌==◌, refl}
use Rattle.std.specs.Cmp.{IsPartialEquivalence, partial_equiv_from_equiv}
use Rattle.std.proofs.lemmas.Cmp.{nat_eq_equiv}
use Rattle.lrpar_parse_lexemes.specs.Repair.{Repair, Inserted, Deleted, Shifted, repair_eq}

-- the laws of equality of numbers
pub nat_per : IsPartialEquivalence ◌==◌
nat_per = partial_equiv_from_equiv nat_eq_equiv

-- equality of repairs is symmetric
repair_symm : {X : Type 0} (eq : X → X → Bool) → IsPartialEquivalence eq → (x y : Repair X) → repair_eq eq x y ≡ repair_eq eq y x
repair_symm eq laws (Inserted t) (Inserted u) = nat_per.symm t u
repair_symm eq laws (Inserted t) (Deleted y) = refl
repair_symm eq laws (Inserted t) (Shifted y) = refl
repair_symm eq laws (Deleted x) (Inserted u) = refl
repair_symm eq laws (Deleted x) (Deleted y) = laws.symm x y
repair_symm eq laws (Deleted x) (Shifted y) = refl
repair_symm eq laws (Shifted x) (Inserted u) = refl
repair_symm eq laws (Shifted x) (Deleted y) = refl
repair_symm eq laws (Shifted x) (Shifted y) = laws.symm x y

-- equality of repairs is transitive
repair_trans : {X : Type 0} (eq : X → X → Bool) → IsPartialEquivalence eq → (x y z : Repair X)
    → repair_eq eq x y ≡ true → repair_eq eq y z ≡ true → repair_eq eq x z ≡ true
repair_trans eq laws (Inserted t) (Inserted u) (Inserted v) h k = nat_per.trans t u v h k
repair_trans eq laws (Deleted x) (Deleted y) (Deleted z) h k = laws.trans x y z h k
repair_trans eq laws (Shifted x) (Shifted y) (Shifted z) h k = laws.trans x y z h k
repair_trans eq laws _ _ _ h k = cc

-- the laws of `repair_eq`
pub repair_per : {X : Type 0} {eq : X → X → Bool} → IsPartialEquivalence eq → IsPartialEquivalence (repair_eq eq)
repair_per {eq = eq} laws = record { symm = repair_symm eq laws; trans = repair_trans eq laws }
