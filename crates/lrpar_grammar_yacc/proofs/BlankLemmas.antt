-- An erased text has the places of the text.
use Rattle.std.proofs.Common.{inl, inr, ◌≡◌, ◌≤◌, ◌+◌, ◌-◌, ◌++◌, ℕ, List, [], ◌∷◌, drop, refl, ap, sym, subst, ◌∙◌, arith}
use Rattle.std.specs.List.{slice_range}
use Rattle.std.proofs.lemmas.List.{drop-drop, take-append-drop}
use Rattle.lrpar_grammar_yacc.specs.declared.text.TextPart.{TextPart}
use Rattle.lrpar_grammar_yacc.specs.Erasure.{AreApart, AreBlanked, blanks, erased_from}

-- the same bytes
blanked_same : (s : List ℕ) → AreBlanked s s
blanked_same [] = tt
blanked_same (c ∷ s) = (inl refl, blanked_same s)

-- blanks in place of each byte
blanked_blanks : (s : List ℕ) → AreBlanked s (blanks s)
blanked_blanks [] = tt
blanked_blanks (c ∷ s) = (inr refl, blanked_blanks s)

-- one text after another
blanked_append : (a b s t : List ℕ) → AreBlanked a b → AreBlanked s t → AreBlanked (a ++ s) (b ++ t)
blanked_append [] [] s t first then = then
blanked_append [] (d ∷ b) s t first then = absurd first
blanked_append (c ∷ a) [] s t first then = absurd first
blanked_append (c ∷ a) (d ∷ b) s t first then = (first.0, blanked_append a b s t first.1 then)

-- a text from a place on, cut at a later place
cut_at : (text : List ℕ) (i j : ℕ) → i ≤ j → slice_range text i j ++ drop j text ≡ drop i text
cut_at text i j order =
    let later : i + (j - i) ≡ j = omega arith in
    ap (λ s. slice_range text i j ++ s) (sym (drop-drop (j - i) i text ∙ ap (λ k. drop k text) later)) ∙ take-append-drop (j - i) (drop i text)

-- the text from a place on, erased
pub blanked_from : (text : List ℕ) (xs : List TextPart) (place : ℕ) → AreApart text place xs → AreBlanked (drop place text) (erased_from text place xs)
blanked_from text [] place apart = blanked_same (drop place text)
blanked_from text (x ∷ xs) place apart =
    let before = slice_range text place x.start in
    let inside = slice_range text x.start x.end in
    let all : before ++ (inside ++ drop x.end text) ≡ drop place text =
    ap (λ s. before ++ s) (cut_at text x.start x.end (omega (arith, apart.2.body, apart.2.end))) ∙ cut_at text place x.start apart.1 in
    subst (λ s. AreBlanked s (erased_from text place (x ∷ xs))) all
    (blanked_append before before _ _ (blanked_same before)
    (blanked_append inside (blanks inside) _ _ (blanked_blanks inside) (blanked_from text xs x.end apart.3)))
