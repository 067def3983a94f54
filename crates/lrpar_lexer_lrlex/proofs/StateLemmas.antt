-- The first state with a name.
use Rattle.std.proofs.Common.{◌≡◌, ◌+◌, nat_lt, not, Bool, cond, List, [], ◌∷◌, length, map, Some, None, ◌∙◌, ap, refl}
use Rattle.std.specs.List.{position, position_or_len, prefix_len}
use Rattle.std.proofs.lemmas.List.{length-map}

prefix_len_map : {A B : Type 0} (test : B → Bool) (f : A → B) (xs : List A) → prefix_len test (map f xs) ≡ prefix_len (λ x. test (f x)) xs
prefix_len_map test f [] = refl
prefix_len_map test f (x ∷ xs) = ap (λ n. cond (test (f x)) (1 + n) 0) (prefix_len_map test f xs)

pub position_map : {A B : Type 0} (test : B → Bool) (f : A → B) (xs : List A)
    → position test (map f xs) ≡ cond (nat_lt (position_or_len (λ x. test (f x)) xs) (length xs)) (Some (position_or_len (λ x. test (f x)) xs)) None
position_map test f xs =
    ap (λ n. cond (nat_lt n (length (map f xs))) (Some n) None) (prefix_len_map (λ x. not (test x)) f xs)
    ∙ ap (λ n. cond (nat_lt (position_or_len (λ x. test (f x)) xs) n) (Some (position_or_len (λ x. test (f x)) xs)) None) (length-map xs f)
