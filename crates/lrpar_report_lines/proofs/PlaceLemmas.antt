-- Boundaries of characters to which bytes of a text are moved.
use Rattle.std.proofs.Common.{◌≡◌, ◌<◌, ◌≤◌, ◌∷◌, ℕ, [], arith, List, length, inl, inr, refl, ap, subst, sym, ◌∙◌}
use Rattle.std.specs.Str.{IsCharBoundary}
use Rattle.std.proofs.lemmas.Bool.{cases_lt}
use Rattle.lrpar_grammar_places.specs.Span.{Extent, nowhere}
use Rattle.lrpar_report_lines.specs.Places.{IsFirstPlace, IsMovedPart, IsNextBoundary}

-- a later byte isn't moved to an earlier boundary
crossing : (text : List ℕ) (a b na nb : ℕ) → a ≤ b → IsNextBoundary text a na → IsNextBoundary text b nb → nb < na → ⊥
crossing text a b na nb ordered first second later =
    elim (cases_lt (length text) b) [
      | inl past ↦ let e = second.beyond past in let within = first.boundary.0 in omega (arith, e, within)
      | inr within ↦
          let on = second.onward within in
          first.nearest nb (omega (arith, on)) later second.boundary
    ]

pub boundaries_ordered : (text : List ℕ) (a b na nb : ℕ) → a ≤ b → IsNextBoundary text a na → IsNextBoundary text b nb → na ≤ nb
boundaries_ordered text a b na nb ordered first second =
    elim (cases_lt nb na) [
      | inl later ↦ absurd (crossing text a b na nb ordered first second later)
      | inr fine ↦ fine
    ]

-- a boundary isn't moved
pub boundary_stays : (text : List ℕ) (a na : ℕ) → IsCharBoundary text a → IsNextBoundary text a na → na ≡ a
boundary_stays text a na boundary next =
    let on = next.onward boundary.0 in
    elim (cases_lt a na) [
      | inl later ↦ absurd (next.nearest a (omega arith) later boundary)
      | inr fine ↦ omega (arith, on)
    ]

-- parts with the same ends are equal
extent_is : (a b : Extent) → a.start ≡ b.start → a.end ≡ b.end → a ≡ b
extent_is a b start end =
    let first : a ≡ record { start = b.start; end = a.end } = ap {B = Extent} (λ s. record { start = s; end = a.end }) start in
    let second : record { start = b.start; end = a.end } ≡ b = ap {B = Extent} (λ e. record { start = b.start; end = e }) end in
    first ∙ second

-- the first of some parts is their place
pub place_of_first : (text : List ℕ) (spans : List Extent) (span : Extent) (rest : List Extent) (place : Extent) → spans ≡ span ∷ rest
    → IsMovedPart text span place → IsFirstPlace text spans place
place_of_first text spans span rest place is moved = subst (λ s. IsFirstPlace text s place) (sym is) moved

-- a list without items
pub none_listed : {X : Type 0} (xs : List X) → length xs ≡ 0 → xs ≡ []
none_listed [] none = refl
none_listed (x ∷ xs) none = absurd (omega (arith, none))

-- of no parts it is the text's start
pub place_of_none : (text : List ℕ) (spans : List Extent) (place : Extent) → spans ≡ [] → place.start ≡ 0 → place.end ≡ 0
    → IsFirstPlace text spans place
place_of_none text spans place is start end = subst (λ s. IsFirstPlace text s place) (sym is) (extent_is place nowhere start end)
