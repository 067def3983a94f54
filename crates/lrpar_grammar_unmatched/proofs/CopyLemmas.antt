-- Copies that grow by one part at a time.
use Rattle.std.proofs.Common.{◌≡◌, ◌<◌, ◌≤◌, ◌+◌, ℕ, List, [], ◌∷◌, ◌++◌, drop, length, map, take, Some, ap, sym, ◌∙◌, arith}
use Rattle.std.specs.List.{slice_get}
use Rattle.std.proofs.lemmas.List.{drop-append-le, length-take-le, map-append, take_more}
use Rattle.std.proofs.lemmas.Option.{get_or_from_slice_get, slice_get_within}

-- the first members of a list, with the next one
pub first_more : {Y : Type 0} (xs : List Y) (n : ℕ) (x : Y) → slice_get xs n ≡ Some x → take n xs ++ x ∷ [] ≡ take (n + 1) xs
first_more xs n x is =
    ap (λ y. take n xs ++ y ∷ []) (sym (get_or_from_slice_get xs n x x is)) ∙ sym (take_more xs n x (slice_get_within xs n x is))

-- one more copy after those of the first members
pub copies_grow : {X Y : Type 0} (f : X → Y) (xs : List Y) (n : ℕ) (made pushed : List X) (x : X)
    → map f made ≡ take n xs → pushed ≡ made ++ x ∷ [] → slice_get xs n ≡ Some (f x) → map f pushed ≡ take (n + 1) xs
copies_grow f xs n made pushed x so_far more is =
    ap (map f) more ∙ map-append f made (x ∷ []) ∙ ap (λ s. s ++ f x ∷ []) so_far ∙ first_more xs n (f x) is

-- the same for copies without that of the first member
pub later_copies_grow : {X Y : Type 0} (f : X → Y) (xs : List Y) (n : ℕ) (made pushed : List X) (x : X)
    → 1 ≤ n → map f made ≡ drop 1 (take n xs) → pushed ≡ made ++ x ∷ [] → slice_get xs n ≡ Some (f x) → map f pushed ≡ drop 1 (take (n + 1) xs)
later_copies_grow f xs n made pushed x past so_far more is =
    let within : n < length xs = slice_get_within xs n (f x) is in
    let some : 1 ≤ length (take n xs) = omega (arith, length-take-le n xs (omega arith)) in
    ap (map f) more ∙ map-append f made (x ∷ []) ∙ ap (λ s. s ++ f x ∷ []) so_far
    ∙ sym (drop-append-le 1 (take n xs) (f x ∷ []) some) ∙ ap (drop 1) (first_more xs n (f x) is)
