-- Lemmas on lists that std lacks.
use Rattle.std.proofs.Common.{inl, inr, ◌≡◌, ◌<◌, ◌+◌, ◌-◌, ℕ, zero, suc, Bool, cond, not, ltb, Some, None, refl, List, [], ◌∷◌, ◌++◌, length, map, take, get_or, subst, sym, ap, zero-add, ◌≤◌, ◌∙◌, arith}
use Rattle.std.specs.List.{All, AllByRecursion, range_with_len, position, prefix_len}
use Rattle.std.proofs.lemmas.Bool.{cases_lt}
use Rattle.std.proofs.lemmas.List.{get_or-map, get_or_default, length-map, take_all, take_more, map-append}

-- what holds of each member of a mapped list
pub All-map-at : {X Y : Type 0} (P : Y → Type 0) (f : X → Y) (xs : List X) → All P (map f xs) → (k : ℕ) (d : X) → k < length xs → P (f (get_or xs k d))
All-map-at P f xs all k d within =
    let within' : k < length (map f xs) = omega (arith, length-map xs f) in
    subst P (get_or-map f xs k d (f d) within) (all k (f d) within')

-- if it fails for one member, it doesn't hold of all
pub All-map-fails : {X Y : Type 0} (P : Y → Type 0) (f : X → Y) (xs : List X) (k : ℕ) (x : X) → k < length xs → x ≡ get_or xs k x → (P (f x) → ⊥) → All P (map f xs) → ⊥
All-map-fails P f xs k x within is fails all = fails (subst (λ y. P (f y)) (sym is) (All-map-at P f xs all k x within))

-- the mapped first members of a list, with one more
pub map-take_more : {X Y : Type 0} (f : X → Y) (xs : List X) (i : ℕ) (x : X) → i < length xs → x ≡ get_or xs i x → map f (take (i + 1) xs) ≡ map f (take i xs) ++ f x ∷ []
map-take_more f xs i x within is =
    ap (map f) (take_more xs i x within ∙ ap (λ y. take i xs ++ y ∷ []) (sym is)) ∙ map-append f (take i xs) (x ∷ [])

-- a list that copies another one, with one more member
pub follows_more : {X Y Z : Type 0} (f : X → Z) (h : Y → Z) (items : List Y) (i : ℕ) (item : Y) (made pushed : List X) (x : X)
    → i < length items → item ≡ get_or items i item → map f made ≡ map h (take i items) → pushed ≡ made ++ x ∷ [] → f x ≡ h item
    → map f pushed ≡ map h (take (i + 1) items)
follows_more f h items i item made pushed x within is so_far more same =
    ap (map f) more ∙ map-append f made (x ∷ []) ∙ ap (λ s. s ++ f x ∷ []) so_far ∙ ap (λ y. map h (take i items) ++ y ∷ []) same
    ∙ sym (map-take_more h items i item within is)

-- the same for a list of the mapped members
pub copies_more : {Y Z : Type 0} (h : Y → Z) (items : List Y) (i : ℕ) (item : Y) (made pushed : List Z)
    → i < length items → item ≡ get_or items i item → made ≡ map h (take i items) → pushed ≡ made ++ h item ∷ []
    → pushed ≡ map h (take (i + 1) items)
copies_more h items i item made pushed within is so_far more =
    more ∙ ap (λ s. s ++ h item ∷ []) so_far ∙ sym (map-take_more h items i item within is)

-- a list that copies the whole of another one, and one member after it
pub follows_all : {X Y Z : Type 0} (f : X → Z) (h : Y → Z) (items : List Y) (i : ℕ) (made pushed : List X) (x : X) (z : Z)
    → length items ≤ i → map f made ≡ map h (take i items) → pushed ≡ made ++ x ∷ [] → f x ≡ z → map f pushed ≡ map h items ++ z ∷ []
follows_all f h items i made pushed x z whole so_far more same =
    ap (map f) more ∙ map-append f made (x ∷ []) ∙ ap (λ s. s ++ f x ∷ []) (so_far ∙ ap (map h) (take_all i items whole))
    ∙ ap (λ y. map h items ++ y ∷ []) same

-- numbers from a on, and one more after them
pub range_more : (a n : ℕ) → range_with_len a n ++ (a + n) ∷ [] ≡ range_with_len a (n + 1)
range_more a zero = let same : a + 0 ≡ a = omega arith in ap (λ n. n ∷ []) same
range_more a (suc n) =
    let last : a + suc n ≡ (a + 1) + n = omega arith in
    let count : suc n + 1 ≡ suc (n + 1) = omega arith in
    ap (λ k. a ∷ (range_with_len (a + 1) n ++ k ∷ [])) last ∙ ap (λ s. a ∷ s) (range_more (a + 1) n) ∙ sym (ap (range_with_len a) count)

-- numbers pushed one by one
pub numbers_more : {X : Type 0} (f : X → ℕ) (n : ℕ) (made pushed : List X) (x : X)
    → map f made ≡ range_with_len 0 n → pushed ≡ made ++ x ∷ [] → f x ≡ n → map f pushed ≡ range_with_len 0 (n + 1)
numbers_more f n made pushed x so_far more is =
    ap (map f) more ∙ map-append f made (x ∷ []) ∙ ap (λ s. s ++ f x ∷ []) so_far
    ∙ ap (λ k. range_with_len 0 n ++ k ∷ []) (is ∙ sym (zero-add n)) ∙ range_more 0 n

-- numbers up to an end, without the first one
pub range_first : (a e : ℕ) → a < e → range_with_len a (e - a) ≡ a ∷ range_with_len (a + 1) (e - (a + 1))
range_first a e below = let count : e - a ≡ suc (e - (a + 1)) = omega arith in ap (range_with_len a) count

-- the longest beginning of a mapped list whose members all pass
pub prefix_len-map : {X Y : Type 0} (p : Y → Bool) (f : X → Y) (xs : List X) → prefix_len p (map f xs) ≡ prefix_len (λ x. p (f x)) xs
prefix_len-map p f [] = refl
prefix_len-map p f (x ∷ xs) = ap (λ n. cond (p (f x)) (1 + n) 0) (prefix_len-map p f xs)

-- the position of the first member of a mapped list that passes
pub position-map : {X Y : Type 0} (p : Y → Bool) (f : X → Y) (xs : List X) → position p (map f xs) ≡ position (λ x. p (f x)) xs
position-map p f xs =
    let place = prefix_len-map (λ y. not (p y)) f xs in
    ap (λ k. cond (ltb k (length (map f xs))) (Some k) None) place
    ∙ ap (λ n. cond (ltb (prefix_len (λ x. not (p (f x))) xs) n) (Some (prefix_len (λ x. not (p (f x))) xs)) None) (length-map xs f)

-- what holds of the members so far and of the next one
pub holds_more : {X : Type 0} (P : X → Type 0) (xs : List X) (i : ℕ) (x : X) → ((k : ℕ) (d : X) → k < i → P (get_or xs k d))
    → i < length xs → x ≡ get_or xs i x → P x → (k : ℕ) (d : X) → k < i + 1 → P (get_or xs k d)
holds_more P xs i x so_far within is holds k d below =
    elim (cases_lt k i) [
      | inl before ↦ so_far k d before
      | inr last ↦
          let same : k ≡ i = omega arith in
          subst (λ n. P (get_or xs n d)) (sym same) (subst P (is ∙ get_or_default xs i x d within) holds)
    ]

-- P holds of all of two lists exactly if it holds of all of each
pub all_front : {A : Type 0} (P : A → Type 0) (xs ys : List A) → AllByRecursion P (xs ++ ys) → AllByRecursion P xs
all_front P [] ys all = tt
all_front P (x ∷ xs) ys all = (all.0, all_front P xs ys all.1)

pub all_back : {A : Type 0} (P : A → Type 0) (xs ys : List A) → AllByRecursion P (xs ++ ys) → AllByRecursion P ys
all_back P [] ys all = all
all_back P (x ∷ xs) ys all = all_back P xs ys all.1

pub all_both : {A : Type 0} (P : A → Type 0) (xs ys : List A) → AllByRecursion P xs → AllByRecursion P ys → AllByRecursion P (xs ++ ys)
all_both P [] ys front back = back
all_both P (x ∷ xs) ys front back = (front.0, all_both P xs ys front.1 back)
