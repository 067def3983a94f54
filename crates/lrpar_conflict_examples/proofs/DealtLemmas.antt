-- Conflicts that are dealt out to three lists, and the counterexamples among them.
use Rattle.std.proofs.Common.{◌≡◌, ◌<◌, ◌+◌, ◌∙◌, sym, ap, subst, ℕ, List, [], ◌∷◌, ◌++◌, get_or, length, map, take}
use Rattle.std.specs.Prelude.{IsPermutation}
use Rattle.std.proofs.lemmas.List.{append_assoc, map-append}
use Rattle.std.proofs.lemmas.List.Sorted.{IsPermutation-append_right, IsPermutation-middle, IsPermutation-push_more, IsPermutation-refl, IsPermutation-sym, IsPermutation-to_front, IsPermutation-trans}
use Rattle.lrpar_grammar_places.proofs.ListLemmas.{all_both, map-take_more}
use Rattle.lrpar_grammar.specs.Grammar.{Grammar}
use Rattle.lrpar_conflict_examples.specs.Conflicts.{ConflictExampleOf, ConflictOf}
use Rattle.lrpar_conflict_examples.specs.ExamplesFit.{ExampleFits, ExamplesFit}

-- a conflict comes to the end of a list, before which or after which there are others
module _ {U : Type 0} (f : U → ConflictOf) (old new : List U) (x : U) (put : new ≡ old ++ x ∷ []) where
  pushed : map f old ++ f x ∷ [] ≡ map f new
  pushed = sym (ap (map f) put ∙ map-append f old (x ∷ []))

  pub to_end : IsPermutation (f x ∷ map f old) (map f new)
  to_end = subst (IsPermutation (f x ∷ map f old)) pushed (IsPermutation-sym _ _ (IsPermutation-to_front (map f old) (f x)))

  pub to_front : (rest : List ConflictOf) → IsPermutation (f x ∷ (map f old ++ rest)) (map f new ++ rest)
  to_front rest =
      subst (IsPermutation (f x ∷ (map f old ++ rest))) (sym (append_assoc (map f old) (f x ∷ []) rest) ∙ ap (λ l. l ++ rest) pushed)
      (IsPermutation-sym _ _ (IsPermutation-middle (map f old) (f x) rest))

pub behind : {X : Type 0} (a rest more : List X) (x : X) → IsPermutation (x ∷ rest) more → IsPermutation (x ∷ (a ++ rest)) (a ++ more)
behind a rest more x same = IsPermutation-trans _ _ _ (IsPermutation-sym _ _ (IsPermutation-middle a x rest)) (IsPermutation-append_right a _ _ same)

-- a loop over conflicts: at first none are dealt out, then one more
module _ {A : Type 0} (f : A → ConflictOf) (xs : List A) where
  pub dealt_none : (first second third : List ConflictOf) → first ≡ [] → second ≡ [] → third ≡ []
      → IsPermutation (map f (take 0 xs)) (first ++ (second ++ third))
  dealt_none first second third one two three =
      subst (IsPermutation (map f (take 0 xs)))
      (sym (ap (λ l. l ++ (second ++ third)) one ∙ ap (λ l. l ++ third) two ∙ three))
      (elim xs as (λ l. IsPermutation (map f (take 0 l)) []) [
        | [] ↦ IsPermutation-refl []
        | y ∷ ys ↦ IsPermutation-refl []
      ])

  pub dealt_more : (i : ℕ) (x : A) (now new : List ConflictOf) → i < length xs → x ≡ get_or xs i x → IsPermutation (map f (take i xs)) now
      → IsPermutation (f x ∷ now) new → IsPermutation (map f (take (i + 1) xs)) new
  dealt_more i x now new low is so_far more =
      subst (λ l. IsPermutation l new) (sym (map-take_more f xs i x low is)) (IsPermutation-push_more (map f (take i xs)) now new (f x) so_far more)

-- one counterexample more
pub fit_more : (g : Grammar) (old new : List ConflictExampleOf) (x : ConflictExampleOf) → ExamplesFit g old → ExampleFits g x → new ≡ old ++ x ∷ []
    → ExamplesFit g new
fit_more g old new x fit one put = subst (ExamplesFit g) (sym put) (all_both (ExampleFits g) old (x ∷ []) fit (one, tt))
