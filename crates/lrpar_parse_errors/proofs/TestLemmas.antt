-- Tests of all elements of a list, and repairs that fit an input, as they are stored and by the numbers of their tokens.
use denote.Param.Members.{Mut}
use Rattle.std.proofs.Common.{◌≡◌, ◌↔◌, ℕ, zero, suc, Bool, true, false, IsTrue, List, [], ◌∷◌, get_or, map, MatchOption, Option, arith}
use Rattle.std.proofs.lemmas.Iterator.{YieldsList}
use Rattle.std.specs.Fn.{Called}
use Rattle.std.specs.Iterator.{YieldsThen}
use Rattle.std.specs.List.{All, AllByRecursion, FoldsTo}
use Rattle.lrpar_table_rows.proofs.Mapped.{all_by_test}
use Rattle.lrpar_parse_lexemes.specs.Lexemes.{LexemeParts}
use Rattle.lrpar_parse_lexemes.specs.Repairs.{repair_of}
use Rattle.lrpar_parse_lexemes.specs.declared.repairs.ParseRepair.{ParseRepair}
use Rattle.lrpar_parse_lexemes.specs.declared.repairs.ParseRepair.TheVariants.{Insert, Delete, Shift}
use Rattle.lrpar_parse_errors.specs.SequenceText.{RepairFits, RepairsFit}
use Rattle.lrpar_parse_errors.specs.StoredSequences.{FitRepairs, FitsRepair}

-- what holds at each place holds of each image, one after another
images : {B C : Type 0} (P : C → Type 0) (f : B → C) (xs : List B) → All (λ x. P (f x)) xs → AllByRecursion P (map f xs)
images P f [] all = tt
images P f (x ∷ xs) all = (all 0 x (omega arith), images P f xs (λ k d below. all (suc k) d (omega arith)))

-- what holds of each image, one after another, holds at each place
places : {B C : Type 0} (P : C → Type 0) (f : B → C) (xs : List B) → AllByRecursion P (map f xs) → All (λ x. P (f x)) xs
places P f [] all k d below = absurd (omega arith)
places P f (x ∷ xs) all zero d below = all.0
places P f (x ∷ xs) all (suc k) d below = places P f xs all.1 k d (omega arith)

-- what holds at each place holds of one element after another
in_turn : {B : Type 0} (P : B → Type 0) (xs : List B) → All P xs → AllByRecursion P xs
in_turn P [] all = tt
in_turn P (x ∷ xs) all = (all 0 x (omega arith), in_turn P xs (λ k d below. all (suc k) d (omega arith)))

-- what holds of one element after another holds at each place
in_places : {B : Type 0} (P : B → Type 0) (xs : List B) → AllByRecursion P xs → All P xs
in_places P [] all k d below = absurd (omega arith)
in_places P (x ∷ xs) all zero d below = all.0
in_places P (x ∷ xs) all (suc k) d below = in_places P xs all.1 k d (omega arith)

module _ {S A B F : Type 0} {steps : S → Option A → S → Type 0} {v : A → B} {g : Mut F (A × Unit {0}) Bool} {s : S} {all : List B} where
  -- if each call of the closure tests P, `all` tests whether P holds of all elements, one after another
  pub all_in_turn : (P : B → Type 0) (u : S) (f : F) (r : Bool)
      → (xs : List A) × (o : Option A) × (j : F) × YieldsThen steps s xs o u × FoldsTo (λ p x q. Called g p (x, tt) true q) f xs j
      × MatchOption o (r ≡ true) (λ x. (r ≡ false) × ((e : F) × Called g j (x, tt) false e))
      → YieldsList steps v s all → ((x : A) (b : Bool) (q : F) → Called g f (x, tt) b q → (q ≡ f) × (IsTrue b ↔ P (v x))) → IsTrue r ↔ AllByRecursion P all
  all_in_turn P u f r ran yields test =
      let tested = all_by_test P u f r ran yields test in
      (λ passed. in_turn P all (tested.0 passed), λ holds. tested.1 (in_places P all holds))

  -- if each call of the closure tests Q, which says P of an element's image, `all` tests whether P holds of all images, one after another
  pub each_by_test : {C : Type 0} (P : C → Type 0) (h : B → C) (Q : B → Type 0) → ((y : B) → Q y ↔ P (h y)) → (u : S) (f : F) (r : Bool)
      → (xs : List A) × (o : Option A) × (j : F) × YieldsThen steps s xs o u × FoldsTo (λ p x q. Called g p (x, tt) true q) f xs j
      × MatchOption o (r ≡ true) (λ x. (r ≡ false) × ((e : F) × Called g j (x, tt) false e))
      → YieldsList steps v s all → ((x : A) (b : Bool) (q : F) → Called g f (x, tt) b q → (q ≡ f) × (IsTrue b ↔ Q (v x))) → IsTrue r ↔ AllByRecursion P (map h all)
  each_by_test P h Q alike u f r ran yields test =
      let tested = all_by_test Q u f r ran yields test in (
        λ passed. images P h all (λ k d below. (alike (get_or all k d)).0 (tested.0 passed k d below)),
        λ holds. tested.1 (λ k d below. (alike (get_or all k d)).1 (places P h all holds k d below)),
      )

module _ {S X : Type 0} (index : S → ℕ) (parts : X → LexemeParts S) (input : List ℕ) where
  -- a repair fits as it is stored exactly if it does with its token by number
  repair_alike : (repair : ParseRepair X S) → FitsRepair parts input repair ↔ RepairFits (λ x. (parts x).span) input (repair_of index repair)
  repair_alike (Insert token) = (λ h. h, λ h. h)
  repair_alike (Delete lexeme) = (λ h. h, λ h. h)
  repair_alike (Shift lexeme) = (λ h. h, λ h. h)

  -- the repairs of a sequence fit as they are stored exactly if they do with their tokens by number
  pub repairs_alike : (repairs : List (ParseRepair X S)) → FitRepairs parts input repairs ↔ RepairsFit (λ x. (parts x).span) input (map (repair_of index) repairs)
  repairs_alike [] = (λ h. h, λ h. h)
  repairs_alike (repair ∷ repairs) =
      let one = repair_alike repair in
      let others = repairs_alike repairs in
      (λ h. (one.0 h.0, others.0 h.1), λ h. (one.1 h.0, others.1 h.1))
