-- What is true of each element of a list, and of each element of its image.
use Rattle.std.proofs.Common.{◌≡◌, ◌<◌, ◌≤◌, ◌+◌, ◌↔◌, ℕ, Bool, true, false, IsTrue, nat_eq, List, length, map, take, All, MatchOption, Option, slice_index_or, refl, subst, sym}
use Rattle.std.specs.Fn.{Called, FnReturns}
use Rattle.std.specs.Iterator.{YieldsThen}
use Rattle.std.specs.List.{FoldsTo}
use Rattle.std.specs.declared.vec.Vec.{Vec}
use denote.Param.Members.{Mut, Shared}
use denote.Ref.{Bor}
use Rattle.std.proofs.Math.ListN.{get_or-map}
use Rattle.std.proofs.lemmas.Bool.{MatchBool-at_true, eqb-true, false≢true}
use Rattle.std.proofs.lemmas.Iterator.{YieldsList, cases_from_all}
use Rattle.std.proofs.lemmas.Iterator.Search.{true_from_All}
use Rattle.std.proofs.lemmas.List.{length-map, take_all}
use Rattle.std.proofs.lemmas.List.Elements.{All-from_all_within, All-map, All-more}
use Rattle.lrpar_table_rows.specs.Entries.{TestsEach}

-- what is true of each image is true of the image of each element
pub All-unmap : {X Y : Type 0} (P : Y → Type 0) (f : X → Y) (xs : List X) → All P (map f xs) → All (λ x. P (f x)) xs
All-unmap P f xs all k d below = subst P (get_or-map f xs k d) (all k (f d) (rw length-map below))

-- if there are n elements, a test of the elements is a test of the images
pub row_test : {X Y : Type 0} (P : Y → Type 0) (f : X → Y) (xs : List X) (n : ℕ) (b : Bool) → length xs ≡ n
    → IsTrue b ↔ All (λ x. P (f x)) xs → IsTrue b ↔ ((length (map f xs) ≡ n) × All P (map f xs))
row_test P f xs n b e test = (λ h. (rw length-map e, All-map P f xs (test.0 h)), λ h. test.1 (All-unmap P f xs h.1))

-- if there aren't n elements, the test of their number fails, as it should
pub row_refused : {X Y : Type 0} (P : Y → Type 0) (f : X → Y) (xs : List X) (n : ℕ) → ¬ (length xs ≡ n)
    → IsTrue (nat_eq (length xs) n) ↔ ((length (map f xs) ≡ n) × All P (map f xs))
row_refused P f xs n other = (λ h. absurd (other (eqb-true _ _ h)), λ h. absurd (other (rw length-map at h.0)))

-- a test of the elements is a test of the images
pub image_test : {X Y : Type 0} (P : Y → Type 0) (f : X → Y) (xs : List X) (b : Bool) → IsTrue b ↔ All (λ x. P (f x)) xs → IsTrue b ↔ All P (map f xs)
image_test P f xs b test = (λ h. All-map P f xs (test.0 h), λ h. test.1 (All-unmap P f xs h))

-- what holds of each element so far, and of the next one, holds of one more element
pub all_more : {X : Type 0} (P : X → Type 0) (xs : List X) (i : ℕ) (x : X) → All P (take i xs) → i < length xs → x ≡ slice_index_or xs i x → P x
    → All P (take (i + 1) xs)
all_more P xs i x so_far below is here = All-more P xs i x below so_far (subst P is here)

-- once all were tested, it holds of all
pub all_tested : {X : Type 0} (P : X → Type 0) (xs : List X) (i : ℕ) → All P (take i xs) → length xs ≤ i → IsTrue true ↔ All P xs
all_tested P xs i so_far end = (λ h. subst (All P) (take_all i xs end) so_far, λ all. refl)

-- if each call of the closure tests P, `all` tests whether P holds of all elements, or of all images
module _ {S A B F : Type 0} {steps : S → Option A → S → Type 0} {v : A → B} {g : Mut F (A × Unit {0}) Bool} {s : S} {all : List B} where
  pub all_by_test : (P : B → Type 0) (u : S) (f : F) (r : Bool)
      → (xs : List A) × (o : Option A) × (j : F) × YieldsThen steps s xs o u × FoldsTo (λ p x q. Called g p (x, tt) true q) f xs j
      × MatchOption o (r ≡ true) (λ x. (r ≡ false) × ((h : F) × Called g j (x, tt) false h))
      → YieldsList steps v s all → ((x : A) (b : Bool) (q : F) → Called g f (x, tt) b q → (q ≡ f) × (IsTrue b ↔ P (v x))) → IsTrue r ↔ All P all
  all_by_test P u f r ran yields test =
      let cases = cases_from_all u f r P (λ y. ¬ (P y)) ran yields (λ x q call. let t = test x true q call in (t.0, t.1.0 refl))
      (λ x q call holds. absurd (false≢true ((test x false q call).1.1 holds))) in
      (λ h. All-from_all_within P all (MatchBool-at_true _ _ h cases), λ holds. true_from_All P (λ y. ¬ (P y)) r all (λ x p no. absurd (no p)) cases holds)

  pub images_by_test : {C : Type 0} (P : C → Type 0) (h : B → C) (u : S) (f : F) (r : Bool)
      → (xs : List A) × (o : Option A) × (j : F) × YieldsThen steps s xs o u × FoldsTo (λ p x q. Called g p (x, tt) true q) f xs j
      × MatchOption o (r ≡ true) (λ x. (r ≡ false) × ((h : F) × Called g j (x, tt) false h))
      → YieldsList steps v s all → ((x : A) (b : Bool) (q : F) → Called g f (x, tt) b q → (q ≡ f) × (IsTrue b ↔ P (h (v x)))) → IsTrue r ↔ All P (map h all)
  images_by_test P h u f r ran yields test = image_test P h all r (all_by_test (λ x. P (h x)) u f r ran yields test)

-- if each call tests P of n, which is m, the test of all rows tests whether P of m holds of all their images
module _ {F X Y Z : Type 0} {calls : Shared F (Bor (List X) × Unit {0}) Bool} {f : F} (P : ℕ → Y → Type 0) (h : List X → Y) (rows : List (Vec X Z)) where
  rows_tested : (r : Bool) (n : ℕ) → TestsEach calls f rows r → ((x : Bor (List X)) (b : Bool) → FnReturns calls f (x, tt) b → IsTrue b ↔ P n (h x.now))
      → IsTrue r ↔ All (λ row. P n (h row.items)) rows
  rows_tested true n passed test = (
    λ _ k d below. let call = passed k d below in subst (λ row. P n (h row)) call.shows ((test call.shown true call.says).0 refl),
    λ _. refl,
  )
  rows_tested false n failed test = (
    λ passed. absurd (false≢true passed),
    λ all.
        let call = failed.4 in
        let row = subst (λ row. P n (h row.items)) failed.3 (all failed.0 failed.1 failed.2) in
        (test call.shown false call.says).1 (subst (λ row. P n (h row)) (sym call.shows) row),
  )

  pub rows_by_test : (r : Bool) (n m : ℕ) → n ≡ m → TestsEach calls f rows r
      → ((x : Bor (List X)) (b : Bool) → FnReturns calls f (x, tt) b → IsTrue b ↔ P n (h x.now)) → IsTrue r ↔ All (P m) (map (λ row. h row.items) rows)
  rows_by_test r n m same tests test = subst (λ k. IsTrue r ↔ All (P k) (map (λ row. h row.items) rows)) same
      (image_test (P n) (λ row. h row.items) rows r (rows_tested r n tests test))
