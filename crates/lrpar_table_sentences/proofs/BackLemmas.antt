-- The steps that are kept, from the end of an access string back to its start.
use Rattle.std.proofs.Common.{◌≡◌, ◌∙◌, refl, sym, ap, subst, ℕ, List, [], ◌∷◌, ◌++◌, Option, Some, None, drop, length, map, reverse, take}
use Rattle.lrpar_table_sentences.specs.declared.transitions.Step.{Step}
use Rattle.std.proofs.lemmas.List.{append-nil, append_assoc, drop-map, length-map, map-append, reverse-append, take-map}
use Rattle.lrpar_table_sentences.specs.AccessStrings.{GoBack, StepOf, AccessOf, last_of, step_of, steps_of, access_at}

-- the steps so far, and those that are left, are all
abbrev pub Backing : List (Option AccessOf) → ℕ → List StepOf → ℕ → List StepOf → Type 0
Backing accesses s before now out =
    (all : List StepOf) → GoBack accesses s all → (rest : List StepOf) × GoBack accesses now rest × (before ++ all ≡ out ++ rest)

module _ (accesses : List (Option AccessOf)) (s : ℕ) (before : List StepOf) (now : ℕ) (out : List StepOf) (so_far : Backing accesses s before now out) where
  split : (step : StepOf) → last_of (access_at accesses now) ≡ Some step → (rest : List StepOf) → GoBack accesses now rest
      → (others : List StepOf) × GoBack accesses step.from others × (out ++ rest ≡ (out ++ step ∷ []) ++ others)
  split step last [] back = let none = ap last_of back.1 in absurd (cc)
  split step last (x ∷ xs) back =
      let both : Some x ≡ Some step = sym (ap last_of back.1) ∙ last in
      let same : x ≡ step = cc in (
        xs,
        subst (λ (y : StepOf). GoBack accesses y.from xs) same back.2,
        ap (λ (y : StepOf). out ++ y ∷ xs) same ∙ sym (append_assoc out (step ∷ []) xs),
      )

  pub backing_goes : (step : StepOf) (after : List StepOf) → last_of (access_at accesses now) ≡ Some step → after ≡ out ++ step ∷ []
      → Backing accesses s before step.from after
  backing_goes step after last is all back =
      let left = so_far all back in
      let one = split step last left.0 left.1 in
      (one.0, one.1, left.2 ∙ one.2 ∙ ap (λ xs. xs ++ one.0) (sym is))

  none_left : last_of (access_at accesses now) ≡ None → (rest : List StepOf) → GoBack accesses now rest → out ++ rest ≡ out
  none_left last [] back = append-nil out
  none_left last (x ∷ xs) back = let some = ap last_of back.1 in absurd (cc)

  pub backing_ends : last_of (access_at accesses now) ≡ None → (all : List StepOf) → GoBack accesses s all → out ≡ before ++ all
  backing_ends last all back =
      let left = so_far all back in sym (none_left last left.0 left.1) ∙ sym left.2

-- the order of the steps that were appended is reversed
pub turned : {S : Type 0} (index : S → ℕ) (old out new : List (Step S)) (back : List StepOf) (n : ℕ) → n ≡ length old
    → steps_of index out ≡ steps_of index old ++ back → new ≡ take n out ++ reverse (drop n out) → steps_of index new ≡ steps_of index old ++ reverse back
turned index old out new back n all is made =
    let long = length-map old (step_of index) in
    let count : n ≡ length (steps_of index old) = all ∙ sym long in
    let front : map (step_of index) (take n out) ≡ steps_of index old =
    sym (take-map (step_of index) n out) ∙ ap (take n) is ∙ ap (λ k. take k (steps_of index old ++ back)) count ∙ take_front (steps_of index old) back in
    let rest : map (step_of index) (drop n out) ≡ back =
    sym (drop-map (step_of index) n out) ∙ ap (drop n) is ∙ ap (λ k. drop k (steps_of index old ++ back)) count ∙ drop_front (steps_of index old) back in
    ap (steps_of index) made ∙ map-append (step_of index) (take n out) (reverse (drop n out))
    ∙ ap (λ xs. xs ++ map (step_of index) (reverse (drop n out))) front
    ∙ ap (λ xs. steps_of index old ++ xs) (map_reverse (step_of index) (drop n out) ∙ ap reverse rest)
  where
    map_reverse : {A B : Type 0} (f : A → B) (xs : List A) → map f (reverse xs) ≡ reverse (map f xs)
    map_reverse f [] = refl
    map_reverse f (x ∷ xs) =
        ap (map f) (reverse-append (x ∷ []) xs) ∙ map-append f (reverse xs) (x ∷ []) ∙ ap (λ ys. ys ++ f x ∷ []) (map_reverse f xs)
        ∙ sym (reverse-append (f x ∷ []) (map f xs))

    take_front : {A : Type 0} (xs ys : List A) → take (length xs) (xs ++ ys) ≡ xs
    take_front [] ys = refl
    take_front (x ∷ xs) ys = ap (λ zs. x ∷ zs) (take_front xs ys)

    drop_front : {A : Type 0} (xs ys : List A) → drop (length xs) (xs ++ ys) ≡ ys
    drop_front [] ys = refl
    drop_front (x ∷ xs) ys = drop_front xs ys
