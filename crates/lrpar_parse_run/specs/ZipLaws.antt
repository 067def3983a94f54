-- Lists side by side: a relation that holds place by place holds with one more place, and on both sides of a cut.
use Rattle.std.specs.Prelude.{List, [], ◌∷◌, ◌++◌, length, take, drop}
use Rattle.std.specs.List.{AllZip}

-- a relation that holds place by place holds with one more place
pub zip_push : {A B : Type 0} (R : A → B → Type 0) (xs : List A) (ys : List B) (x : A) (y : B)
    → AllZip R xs ys → R x y → AllZip R (xs ++ x ∷ []) (ys ++ y ∷ [])
zip_push R [] [] x y all last = (last, tt)
zip_push R [] (z ∷ ys) x y all last = absurd all
zip_push R (w ∷ xs) [] x y all last = absurd all
zip_push R (w ∷ xs) (z ∷ ys) x y all last = (all.0, zip_push R xs ys x y all.1 last)

-- a relation that holds place by place holds for the places before a cut
pub zip_take : {A B : Type 0} (R : A → B → Type 0) (xs zs : List A) (ys : List B) → AllZip R (xs ++ zs) ys → AllZip R xs (take (length xs) ys)
zip_take R [] zs ys all = tt
zip_take R (x ∷ xs) zs [] all = absurd all
zip_take R (x ∷ xs) zs (y ∷ ys) all = (all.0, zip_take R xs zs ys all.1)

-- a relation that holds place by place holds for the places after a cut
pub zip_drop : {A B : Type 0} (R : A → B → Type 0) (xs zs : List A) (ys : List B) → AllZip R (xs ++ zs) ys → AllZip R zs (drop (length xs) ys)
zip_drop R [] zs ys all = all
zip_drop R (x ∷ xs) zs [] all = absurd all
zip_drop R (x ∷ xs) zs (y ∷ ys) all = zip_drop R xs zs ys all.1
