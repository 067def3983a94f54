-- What tests decide, and loops over lists.
use Rattle.std.proofs.Common.{◌≡◌, ◌<◌, ◌≤◌, ◌+◌, ◌↔◌, ◌∙◌, ℕ, suc, ◌∷◌, false, true, IsTrue, List, [], Option, length, map, slice_index_or, unwrap_or, refl, sym, ap, subst, below_more, arith}
use Rattle.std.specs.List.{All, AllZip, Contains}
use Rattle.std.proofs.lemmas.Bool.{false≢true}
use Rattle.std.proofs.lemmas.List.{get_or_default, length-map}

-- what holds of each element so far, and of the next one, holds of one element more
pub each_more : {X : Type 0} (P : X → Type 0) (xs : List X) (i : ℕ) (x : X) → i < length xs → x ≡ slice_index_or xs i x → P x
    → ((k : ℕ) (d : X) → k < i → P (slice_index_or xs k d)) → (k : ℕ) (d : X) → k < i + 1 → P (slice_index_or xs k d)
each_more P xs i x below read holds before k d within =
    below_more (λ j. P (slice_index_or xs j d)) i (λ j h. before j d h) (subst P (read ∙ get_or_default xs i x d below) holds) k within

-- a test that passes decides what is true
pub accepted : {A : Type 0} → A → IsTrue true ↔ A
accepted holds = (λ _. holds, λ _. refl)

-- and one that fails decides what is false
pub refused : {A : Type 0} → ¬ A → IsTrue false ↔ A
refused fails = (λ h. absurd (cc), λ holds. absurd (fails holds))

-- a list has as many elements as its image
pub length_by_image : {X Y : Type 0} (f : X → Y) (xs : List X) (ys : List Y) → map f xs ≡ ys → length xs ≡ length ys
length_by_image {Y = Y} f xs ys is = sym (length-map xs f) ∙ ap (λ (zs : List Y). length zs) is

-- a look-up at a place, with a default, returns what is there, or else the default
pub item_read : {X : Type 0} (xs ys : List X) (i : ℕ) (item : Option X) (d : X) → ys ≡ xs → (i ≤ i → (e : X) → unwrap_or item e ≡ slice_index_or ys i e)
    → unwrap_or item d ≡ slice_index_or xs i d
item_read {X} xs ys i item d same read = subst (λ (zs : List X). unwrap_or item d ≡ slice_index_or zs i d) same (read (omega arith) d)

-- nothing is in an empty list
pub none_there : {X : Type 0} (x : X) → IsTrue false ↔ Contains [] x
none_there x = (λ h. absurd (false≢true h), λ there. absurd (omega (arith, there.1)))

-- what holds of all holds of the element that was read
pub all_read : {X : Type 0} (P : X → Type 0) (xs : List X) (i : ℕ) (x : X) → All P xs → i < length xs → x ≡ slice_index_or xs i x → P x
all_read P xs i x all below is = subst P (sym is) (all i x below)

-- lists whose elements are paired have the same length
pub same_len : {X Y : Type 0} (R : X → Y → Type 0) (xs : List X) (ys : List Y) → AllZip R xs ys → length xs ≡ length ys
same_len R [] [] all = refl
same_len R [] (y ∷ ys) all = absurd all
same_len R (x ∷ xs) [] all = absurd all
same_len R (x ∷ xs) (y ∷ ys) all = ap (λ (n : ℕ). suc n) (same_len R xs ys all.1)
