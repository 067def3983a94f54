-- Lists that grow by what each element of another list gives.
use Rattle.std.proofs.Common.{◌≡◌, ◌<◌, ◌+◌, ℕ, Bool, true, false, cond, List, [], ◌∷◌, ◌++◌, append_assoc, length, map, take, get_or, ap, sym, subst, ◌∙◌, arith}
use Rattle.std.specs.List.{All, filter, flat_map}
use Rattle.std.proofs.lemmas.List.{append-nil, get_or-map, length-map, map-append, take_more}
use Rattle.std.proofs.lemmas.List.Concat.{flat_map-append}
use Rattle.std.proofs.lemmas.List.Elements.{All-more, filter-append}

-- the first elements of a mapped list, and one more
pub take_map_more : {X Y : Type 0} (f : X → Y) (xs : List X) (i : ℕ) (d : X) → i < length xs
    → take (i + 1) (map f xs) ≡ take i (map f xs) ++ f (get_or xs i d) ∷ []
take_map_more f xs i d within =
    take_more (map f xs) i (f d) (omega (arith, length-map xs f)) ∙ ap (λ y. take i (map f xs) ++ y ∷ []) (get_or-map f xs i d (f d) within)

-- what a filter keeps of a list with one element
filter_one : {Y : Type 0} (p : Y → Bool) (y : Y) (b : Bool) → p y ≡ b → filter p (y ∷ []) ≡ cond b (y ∷ []) []
filter_one p y b is = ap (λ c. cond c (y ∷ []) []) is

-- an element that passes is pushed
pub pushed_passing : {X Y : Type 0} (f : X → Y) (p : Y → Bool) (items new : List X) (base : List Y) (xs : List X) (i : ℕ) (d : X) → i < length xs
    → new ≡ items ++ get_or xs i d ∷ [] → p (f (get_or xs i d)) ≡ true → map f items ≡ base ++ filter p (take i (map f xs))
    → map f new ≡ base ++ filter p (take (i + 1) (map f xs))
pushed_passing f p items new base xs i d within is passes so_far =
    let y = f (get_or xs i d) in
    ap (map f) is ∙ map-append f items (get_or xs i d ∷ []) ∙ ap (λ s. s ++ y ∷ []) so_far
    ∙ append_assoc base (filter p (take i (map f xs))) (y ∷ [])
    ∙ ap (λ s. base ++ s) (sym (ap (filter p) (take_map_more f xs i d within) ∙ filter-append p (take i (map f xs)) (y ∷ [])
    ∙ ap (λ s. filter p (take i (map f xs)) ++ s) (filter_one p y true passes)))

-- an element that doesn't pass is left out
pub left_out : {X Y : Type 0} (f : X → Y) (p : Y → Bool) (items new : List X) (base : List Y) (xs : List X) (i : ℕ) (d : X) → i < length xs
    → new ≡ items → p (f (get_or xs i d)) ≡ false → map f items ≡ base ++ filter p (take i (map f xs))
    → map f new ≡ base ++ filter p (take (i + 1) (map f xs))
left_out f p items new base xs i d within is fails so_far =
    let y = f (get_or xs i d) in
    ap (map f) is ∙ so_far
    ∙ ap (λ s. base ++ s) (sym (ap (filter p) (take_map_more f xs i d within) ∙ filter-append p (take i (map f xs)) (y ∷ [])
    ∙ ap (λ s. filter p (take i (map f xs)) ++ s) (filter_one p y false fails) ∙ append-nil (filter p (take i (map f xs)))))

-- what one more element gives comes after the rest
pub gave_more : {X Y Z : Type 0} (f : X → Y) (g : Y → List Z) (items new base : List Z) (xs : List X) (i : ℕ) (d : X) → i < length xs
    → new ≡ items ++ g (f (get_or xs i d)) → items ≡ base ++ flat_map g (take i (map f xs)) → new ≡ base ++ flat_map g (take (i + 1) (map f xs))
gave_more f g items new base xs i d within is so_far =
    let y = f (get_or xs i d) in
    is ∙ ap (λ s. s ++ g y) so_far ∙ append_assoc base (flat_map g (take i (map f xs))) (g y)
    ∙ ap (λ s. base ++ s) (sym (ap (flat_map g) (take_map_more f xs i d within) ∙ flat_map-append g (take i (map f xs)) (y ∷ [])
    ∙ ap (λ s. flat_map g (take i (map f xs)) ++ s) (append-nil (g y))))

-- what holds of the first elements and of one more
pub all_more : {X Y : Type 0} (P : Y → Type 0) (f : X → Y) (xs : List X) (i : ℕ) (d : X) → i < length xs → P (f (get_or xs i d))
    → All P (take i (map f xs)) → All P (take (i + 1) (map f xs))
all_more P f xs i d within holds so_far =
    let holds' : P (get_or (map f xs) i (f d)) = subst P (sym (get_or-map f xs i d (f d) within)) holds in
    All-more P (map f xs) i (f d) (omega (arith, length-map xs f)) so_far holds'

-- an element made from another is pushed
pub made_more : {X Y Z W : Type 0} (f : X → Y) (g : Y → Z) (h : W → Z) (items new : List W) (w : W) (xs : List X) (i : ℕ) (d : X) → i < length xs
    → new ≡ items ++ w ∷ [] → h w ≡ g (f (get_or xs i d)) → map h items ≡ map g (take i (map f xs)) → map h new ≡ map g (take (i + 1) (map f xs))
made_more f g h items new w xs i d within is made so_far =
    ap (map h) is ∙ map-append h items (w ∷ []) ∙ ap (λ s. s ++ h w ∷ []) so_far ∙ ap (λ z. map g (take i (map f xs)) ++ z ∷ []) made
    ∙ sym (ap (map g) (take_map_more f xs i d within) ∙ map-append g (take i (map f xs)) (f (get_or xs i d) ∷ []))

-- what holds of all elements of a mapped list holds of each
pub all_at : {X Y : Type 0} (P : Y → Type 0) (f : X → Y) (xs : List X) (i : ℕ) (d : X) → i < length xs → All P (map f xs) → P (f (get_or xs i d))
all_at P f xs i d within all = subst P (get_or-map f xs i d (f d) within) (all i (f d) (omega (arith, length-map xs f)))
