-- Elements of a list, and of the list mapped.
use Rattle.std.proofs.Common.{◌≡◌, ◌<◌, ◌-◌, ◌∙◌, ℕ, List, Some, get_or, length, map, ap, arith, refl}
use Rattle.std.specs.List.{slice_get}
use Rattle.std.specs.Option.{option_map}
use Rattle.std.proofs.lemmas.List.{length-map}
use Rattle.std.proofs.lemmas.Option.{slice_get-map, slice_get_read}
use Rattle.lrpar_table_stacks.specs.Stack.{top_of}

-- an element of a list is, mapped, the element of the mapped list at the same place
pub map_at : {A : Type 0} (f : A → ℕ) (xs : List A) (i : ℕ) (x : A) → i < length (map f xs) → x ≡ get_or xs i x → slice_get (map f xs) i ≡ Some (f x)
map_at f xs i x within read =
    let count : length (map f xs) ≡ length xs = length-map xs f in
    slice_get-map f xs i ∙ ap (option_map f) (slice_get_read xs (length xs) i x refl (omega (arith, within, count)) read)

-- the same at its end
pub map_last : {A : Type 0} (f : A → ℕ) (xs : List A) (n : ℕ) (x : A) → 0 < length (map f xs) → n ≡ length xs → x ≡ get_or xs (n - 1) x → top_of (map f xs) ≡ Some (f x)
map_last f xs n x some is read =
    let count : length (map f xs) ≡ length xs = length-map xs f in
    let place : length (map f xs) - 1 ≡ n - 1 = omega (arith, count, is) in
    ap (slice_get (map f xs)) place ∙ map_at f xs (n - 1) x (omega (arith, some, count, is)) read
