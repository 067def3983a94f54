-- The form of sequences: what the parts of a sequence have, and the beginnings of a well-formed one.
use Rattle.std.proofs.Common.{◌≡◌, ◌<◌, ◌∙◌, ◌⊎◌, inl, inr, ℕ, List, [], ◌∷◌, ◌++◌, refl, ap}
use Rattle.std.proofs.lemmas.List.{append_assoc, same_from_push}
use Rattle.lrpar_parse_repair.specs.Sequences.{PlainStep, PlainInsert, PlainDelete, PlainShift}
use Rattle.lrpar_parse_cpctplus.specs.Forms.{EndsIn, Has, IsFormed}

-- an Insert is of a token below the end token
abbrev pub IsStepOf : ℕ → PlainStep → Type 0
IsStepOf end (PlainInsert t) = t < end
IsStepOf end PlainDelete = Unit {0}
IsStepOf end PlainShift = Unit {0}

-- a sequence is empty, or has a last step
pub last_view : (xs : List PlainStep) → (xs ≡ []) ⊎ ((ys : List PlainStep) × (y : PlainStep) × (xs ≡ ys ++ y ∷ []))
last_view [] = inl refl
last_view (x ∷ xs) =
    elim (last_view xs) as (λ _. (x ∷ xs ≡ []) ⊎ ((ys : List PlainStep) × (y : PlainStep) × (x ∷ xs ≡ ys ++ y ∷ []))) [
      | inl e ↦ inr ([], x, ap (λ (l : List PlainStep). x ∷ l) e)
      | inr h ↦ inr (x ∷ h.0, h.1, ap (λ (l : List PlainStep). x ∷ l) h.2)
    ]

-- no sequence with a step more is empty
pub push_some : (p : List PlainStep) (s : PlainStep) (rest : List PlainStep) → ¬ ([] ≡ p ++ s ∷ rest)
push_some [] s rest e = cc
push_some (x ∷ p) s rest e = cc

-- what a sequence has, a longer one has
pub has_before : (p rest part : List PlainStep) → Has p part → Has (p ++ rest) part
has_before p rest part h = (h.0, h.1 ++ rest, ap (λ (l : List PlainStep). l ++ rest) h.2 ∙ append_assoc (h.0 ++ part) h.1 rest)

pub has_after : (s : PlainStep) (p part : List PlainStep) → Has p part → Has (s ∷ p) part
has_after s p part h = (s ∷ h.0, h.1, ap (λ (l : List PlainStep). s ∷ l) h.2)

-- an empty sequence has no steps
pub has_none : (x : PlainStep) (part : List PlainStep) → ¬ (Has [] (x ∷ part))
has_none x part h = push_some h.0 x (part ++ h.1) (h.2 ∙ append_assoc h.0 (x ∷ part) h.1)

-- the last step of a sequence, the last two, and Shifts at its end
pub ends_in_one : (p : List PlainStep) (s x : PlainStep) → EndsIn (p ++ s ∷ []) (x ∷ []) → s ≡ x
ends_in_one p s x h = (same_from_push p h.0 s x h.1).1

-- a step that a sequence may have
module _ (end : ℕ) where
  -- a sequence that begins a well-formed one is well formed
  pub formed_before : (p rest : List PlainStep) → IsFormed end (p ++ rest) → IsFormed end p
  formed_before p rest h = record {
    inserts = λ t at. h.inserts t (has_before p rest (PlainInsert t ∷ []) at);
    apart = λ t at. h.apart t (has_before p rest (PlainDelete ∷ PlainInsert t ∷ []) at);
  }

  pub formed_none : IsFormed end []
  formed_none = record {
    inserts = λ t at. absurd (has_none (PlainInsert t) [] at);
    apart = λ t at. has_none PlainDelete (PlainInsert t ∷ []) at;
  }
