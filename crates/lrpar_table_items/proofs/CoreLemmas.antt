-- The items of cores, one core after the other; and cores with the same parts are the same.
use Rattle.std.proofs.Common.{◌≡◌, ◌↔◌, ◌⊎◌, ◌∙◌, sym, ap, subst, inl, inr, arith, ℕ, Bool, List, [], ◌∷◌}
use Rattle.std.proofs.lemmas.List.Elements.{Contains-append_cases, Contains-append_left, Contains-append_right, Contains-push, Contains-push_cases}
use Rattle.lrpar_table_rows.specs.Graph.{ItemOf}
use Rattle.lrpar_table_items.specs.Cores.{CoreSet, IsAmong, IsOfCore}

-- no cores have no items
pub among_nil : (x : ItemOf) → IsAmong [] x → ⊥
among_nil x h = let low = h.1.1 in omega (arith, low)

-- the items of a core and others are those of the core and those of the others
pub among_cons : (core : CoreSet) (cores : List CoreSet) (x : ItemOf) → IsAmong (core ∷ cores) x ↔ (IsOfCore core x ⊎ IsAmong cores x)
among_cons core cores x = (
  λ h. elim (Contains-append_cases (core ∷ []) cores h.0 h.1) [
    | inl first ↦
        elim (Contains-push_cases [] core h.0 first) [
          | inl none ↦ let low = none.1 in absurd (omega (arith, low))
          | inr is ↦ inl (subst (λ c. IsOfCore c x) (sym is) h.2)
        ]
    | inr later ↦ inr (h.0, later, h.2)
  ],
  λ h. elim h [
    | inl first ↦ (core, Contains-append_left (core ∷ []) cores core (Contains-push [] core), first)
    | inr later ↦ (later.0, Contains-append_right (core ∷ []) cores later.0 later.1, later.2)
  ],
)

abbrev core_of : ℕ → ℕ → List Bool → CoreSet
core_of prod dot tokens = record { prod = prod; dot = dot; tokens = tokens }

-- a core with these parts is this core
pub core_is : (a b : CoreSet) → a.prod ≡ b.prod → a.dot ≡ b.dot → a.tokens ≡ b.tokens → a ≡ b
core_is a b prod dot tokens =
    ap (λ n. core_of n a.dot a.tokens) prod ∙ ap (λ n. core_of b.prod n a.tokens) dot ∙ ap (core_of b.prod b.dot) tokens
