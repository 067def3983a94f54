-- Lists side by side.
use Rattle.std.proofs.Common.{◌≡◌, List, [], ◌∷◌, refl}
use Rattle.std.specs.List.{AllZip}

-- the elements of two lists of one element
pub zip_one : {A B : Type 0} (R : A → B → Type 0) (x : A) (ys : List B) → AllZip R (x ∷ []) ys → (y : B) × (ys ≡ y ∷ []) × R x y
zip_one R x [] all = absurd all
zip_one R x (y ∷ []) all = (y, refl, all.0)
zip_one R x (y ∷ z ∷ ys) all = absurd all.1

-- lists of one element are equal by it
pub same_one : {A : Type 0} (x y : A) → x ∷ [] ≡ y ∷ [] → x ≡ y
same_one x y e = cc

-- each element is equal to itself
pub zip_same : {A : Type 0} (xs : List A) → AllZip (λ x y. x ≡ y) xs xs
zip_same [] = tt
zip_same (x ∷ xs) = (refl, zip_same xs)
