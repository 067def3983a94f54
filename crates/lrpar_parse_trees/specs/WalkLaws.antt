-- Equality of trees is symmetric and transitive if equality of lexemes and of rules is, and an equivalence if both are equivalences.
use Rattle.std.specs.Prelude.{◌≡◌, ℕ, Bool, true, ◌==◌, refl}
use Rattle.std.specs.Cmp.{IsPartialEquivalence, IsEquivalence, on_per, on_equiv, and_per, and_equiv, equiv, partial_equiv_from_equiv}
use Rattle.std.specs.Cmp.Lexicographic.{lists_per, lists_equiv}
use Rattle.std.specs.Ordering.{on, eq_of_both}
use Rattle.std.proofs.lemmas.Cmp.{nat_eq_equiv}
use Rattle.lrpar_parse_trees.specs.Visits.{Visit, Met, Entered, visit_eq}
use Rattle.lrpar_parse_trees.specs.Walks.{walk, node_eq}

-- equality of rules with numbers of children
abbrev entered_eq : {S : Type 0} → (S → S → Bool) → S × ℕ → S × ℕ → Bool
entered_eq same = eq_of_both (on (λ e. e.0) same) (on (λ e. e.1) ◌==◌)

entered_per : {S : Type 0} {same : S → S → Bool} → IsPartialEquivalence same → IsPartialEquivalence (entered_eq same)
entered_per rules = and_per (on_per (λ e. e.0) rules) (on_per (λ e. e.1) (partial_equiv_from_equiv nat_eq_equiv))

entered_equiv : {S : Type 0} {same : S → S → Bool} → IsEquivalence same → IsEquivalence (entered_eq same)
entered_equiv rules = and_equiv (on_equiv (λ e. e.0) rules) (on_equiv (λ e. e.1) nat_eq_equiv)

-- equality of visits is symmetric
visit_symm : {X S : Type 0} (eq : X → X → Bool) (same : S → S → Bool) → IsPartialEquivalence eq → IsPartialEquivalence same
    → (x y : Visit X S) → visit_eq eq same x y ≡ visit_eq eq same y x
visit_symm eq same laws rules (Met x) (Met y) = laws.symm x y
visit_symm eq same laws rules (Entered r n) (Entered q m) = (entered_per rules).symm (r, n) (q, m)
visit_symm eq same laws rules (Met x) (Entered r n) = refl
visit_symm eq same laws rules (Entered r n) (Met y) = refl

-- equality of visits is transitive
visit_trans : {X S : Type 0} (eq : X → X → Bool) (same : S → S → Bool) → IsPartialEquivalence eq → IsPartialEquivalence same
    → (x y z : Visit X S) → visit_eq eq same x y ≡ true → visit_eq eq same y z ≡ true → visit_eq eq same x z ≡ true
visit_trans eq same laws rules (Met x) (Met y) (Met z) h k = laws.trans x y z h k
visit_trans eq same laws rules (Entered r n) (Entered q m) (Entered p l) h k = (entered_per rules).trans (r, n) (q, m) (p, l) h k
visit_trans eq same laws rules _ _ _ h k = cc

-- equality of visits is reflexive
visit_refl : {X S : Type 0} (eq : X → X → Bool) (same : S → S → Bool) → IsEquivalence eq → IsEquivalence same
    → (x : Visit X S) → visit_eq eq same x x ≡ true
visit_refl eq same laws rules (Met x) = laws.refl x
visit_refl eq same laws rules (Entered r n) = (entered_equiv rules).refl (r, n)

-- the laws of `visit_eq`
pub visit_per : {X S : Type 0} {eq : X → X → Bool} {same : S → S → Bool} → IsPartialEquivalence eq → IsPartialEquivalence same
    → IsPartialEquivalence (visit_eq eq same)
visit_per {eq = eq} {same = same} laws rules = record { symm = visit_symm eq same laws rules; trans = visit_trans eq same laws rules }

pub visit_equiv : {X S : Type 0} {eq : X → X → Bool} {same : S → S → Bool} → IsEquivalence eq → IsEquivalence same
    → IsEquivalence (visit_eq eq same)
visit_equiv {eq = eq} {same = same} laws rules =
    equiv (visit_per (partial_equiv_from_equiv laws) (partial_equiv_from_equiv rules)) (visit_refl eq same laws rules)

-- the laws of `node_eq`
pub node_per : {X S : Type 0} {eq : X → X → Bool} {same : S → S → Bool} → IsPartialEquivalence eq → IsPartialEquivalence same
    → IsPartialEquivalence (node_eq eq same)
node_per laws rules = on_per walk (lists_per (visit_per laws rules))

pub node_equiv : {X S : Type 0} {eq : X → X → Bool} {same : S → S → Bool} → IsEquivalence eq → IsEquivalence same
    → IsEquivalence (node_eq eq same)
node_equiv laws rules = on_equiv walk (lists_equiv (visit_equiv laws rules))
