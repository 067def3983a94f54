-- Lists that are compared place by place, and the elements at a place.
use Rattle.std.proofs.Common.{◌≡◌, ◌<◌, ◌+◌, ◌∷◌, ◌++◌, ◌∙◌, [], sym, ap, ℕ, List, get_or, length, map, take}
use Rattle.std.proofs.lemmas.List.{get_or-map}
use Rattle.lrpar_grammar_places.proofs.ListLemmas.{map-take_more}

module _ {X Y : Type 0} (f : X → Y) (xs ys : List X) (i : ℕ) (x y : X) (low : i < length xs) (below : i < length ys) (is : x ≡ get_or xs i x)
    (other : y ≡ get_or ys i y) where
  -- if the lists are the same, so are the elements at one place
  pub same_at : map f xs ≡ map f ys → f x ≡ f y
  same_at same =
      ap f is ∙ sym (get_or-map f xs i x (f x) low) ∙ ap (λ zs. get_or zs i (f x)) same ∙ get_or-map f ys i y (f x) below ∙ ap f (sym other)

  -- the lists up to a place are the same, if those before it are and the elements there are
  pub same_more : map f (take i xs) ≡ map f (take i ys) → f x ≡ f y → map f (take (i + 1) xs) ≡ map f (take (i + 1) ys)
  same_more before same =
      map-take_more f xs i x low is ∙ ap (λ zs. zs ++ f x ∷ []) before ∙ ap (λ z. map f (take i ys) ++ z ∷ []) same
      ∙ sym (map-take_more f ys i y below other)

-- the element at a place of a mapped list
pub mapped_at : {X Y : Type 0} (f : X → Y) (xs : List X) (n : ℕ) (x : X) (d : Y) → n < length xs → x ≡ get_or xs n x → get_or (map f xs) n d ≡ f x
mapped_at f xs n x d low is = get_or-map f xs n x d low ∙ ap f (sym is)
