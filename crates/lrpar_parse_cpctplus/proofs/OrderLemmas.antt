-- The order of sequences: of two at most one is earlier; and a stable sort leaves those that tie in their order.
use Rattle.std.proofs.Common.{◌≡◌, ◌<◌, ◌∙◌, ℕ, zero, suc, List, [], ◌∷◌, ◌++◌, Bool, true, false, cond, filter, length, get_or, map, sym, subst, ap, arith, All, AllPairs}
use Rattle.std.specs.List.Sorted.{IsStableBy, ties}
use Rattle.std.proofs.lemmas.List.{get_or-map, length-map}
use Rattle.std.proofs.lemmas.List.Elements.{All-map}
use Rattle.std.proofs.lemmas.List.Kept.{AllPairs-cons, AllPairs-filter}
use Rattle.lrpar_parse_repair.specs.Sequences.{PlainStep, PlainInsert, PlainDelete, PlainShift}
use Rattle.lrpar_parse_cpctplus.specs.Order.{IsEarlier, IsStepBefore}

-- no step comes before itself, no sequence is earlier than itself, and no repair comes first before itself
pub not_before_itself : (x : PlainStep) → ¬ (IsStepBefore x x)
not_before_itself (PlainInsert t) h = omega (arith, h)
not_before_itself PlainDelete h = h
not_before_itself PlainShift h = h

-- of two steps at most one comes before the other
steps_one_way : (x y : PlainStep) → IsStepBefore x y → ¬ (IsStepBefore y x)
steps_one_way (PlainInsert t) (PlainInsert u) h k = omega (arith, h, k)
steps_one_way (PlainInsert t) PlainDelete h k = k
steps_one_way (PlainInsert t) PlainShift h k = k
steps_one_way PlainDelete (PlainInsert u) h k = h
steps_one_way PlainDelete PlainDelete h k = h
steps_one_way PlainDelete PlainShift h k = k
steps_one_way PlainShift (PlainInsert u) h k = h
steps_one_way PlainShift PlainDelete h k = h
steps_one_way PlainShift PlainShift h k = h

-- two sequences have one first difference
differ_one_way : (s : List PlainStep) (x y : PlainStep) (a b : List PlainStep) (t : List PlainStep) (u v : PlainStep) (c d : List PlainStep)
    → s ++ x ∷ a ≡ t ++ v ∷ d → s ++ y ∷ b ≡ t ++ u ∷ c → IsStepBefore x y → ¬ (IsStepBefore u v)
differ_one_way [] x y a b [] u v c d left right h k =
    let one : x ≡ v = let e : x ∷ a ≡ v ∷ d = left in cc in
    let other : y ≡ u = let e : y ∷ b ≡ u ∷ c = right in cc in
    steps_one_way x y h (subst (λ (z : PlainStep). IsStepBefore z x) (sym other) (subst (λ (z : PlainStep). IsStepBefore u z) (sym one) k))
differ_one_way [] x y a b (z ∷ t) u v c d left right h k =
    let same : x ≡ y = let e : x ∷ a ≡ z ∷ (t ++ v ∷ d) = left in let f : y ∷ b ≡ z ∷ (t ++ u ∷ c) = right in cc in
    not_before_itself y (subst (λ (w : PlainStep). IsStepBefore w y) same h)
differ_one_way (z ∷ s) x y a b [] u v c d left right h k =
    let same : u ≡ v = let e : z ∷ (s ++ x ∷ a) ≡ v ∷ d = left in let f : z ∷ (s ++ y ∷ b) ≡ u ∷ c = right in cc in
    not_before_itself v (subst (λ (w : PlainStep). IsStepBefore w v) same k)
differ_one_way (z ∷ s) x y a b (w ∷ t) u v c d left right h k =
    let one : s ++ x ∷ a ≡ t ++ v ∷ d = let e : z ∷ (s ++ x ∷ a) ≡ w ∷ (t ++ v ∷ d) = left in cc in
    let other : s ++ y ∷ b ≡ t ++ u ∷ c = let e : z ∷ (s ++ y ∷ b) ≡ w ∷ (t ++ u ∷ c) = right in cc in
    differ_one_way s x y a b t u v c d one other h k

pub earlier_one_way : (xs ys : List PlainStep) → IsEarlier xs ys → ¬ (IsEarlier ys xs)
earlier_one_way xs ys h k =
    differ_one_way h.same h.x h.y h.after_x h.after_y k.same k.x k.y k.after_x k.after_y (sym h.left ∙ k.right) (sym h.right ∙ k.left) h.before k.before

-- pairs of a list, in order
module _ {A : Type 0} (R : A → A → Type 0) where
  pub pairs_head : (x : A) (xs : List A) → AllPairs R (x ∷ xs) → All (R x) xs
  pairs_head x xs h k d within = h zero (suc k) d (omega arith) (omega (arith, within))

  pub pairs_tail : (x : A) (xs : List A) → AllPairs R (x ∷ xs) → AllPairs R xs
  pairs_tail x xs h i j d less within = h (suc i) (suc j) d (omega (arith, less)) (omega (arith, within))

  kept_tail : (b : Bool) (x : A) (xs : List A) → AllPairs R (cond b (x ∷ xs) xs) → AllPairs R xs
  kept_tail true x xs h = pairs_tail x xs h
  kept_tail false x xs h = h

pub pairs_none : {A : Type 0} (R : A → A → Type 0) → AllPairs R []
pairs_none R i j d less within = absurd (omega (arith, within))

pub pairs_weaker : {A : Type 0} (R Q : A → A → Type 0) → ((x y : A) → R x y → Q x y) → (xs : List A) → AllPairs R xs → AllPairs Q xs
pairs_weaker R Q weaker xs h i j d less within = weaker (get_or xs i d) (get_or xs j d) (h i j d less within)

-- of what a list is mapped to
pub pairs_map : {A B : Type 0} (R : B → B → Type 0) (f : A → B) (xs : List A) → AllPairs (λ x y. R (f x) (f y)) xs → AllPairs R (map f xs)
pairs_map R f [] h = pairs_none R
pairs_map R f (x ∷ xs) h =
    AllPairs-cons R (f x) (map f xs) (All-map (R (f x)) f xs (pairs_head (λ x y. R (f x) (f y)) x xs h))
    (pairs_map R f xs (pairs_tail (λ x y. R (f x) (f y)) x xs h))

pub pairs_mapped : {A B : Type 0} (R : B → B → Type 0) (f : A → B) (xs : List A) → AllPairs R (map f xs) → AllPairs (λ x y. R (f x) (f y)) xs
pairs_mapped R f [] h = pairs_none (λ x y. R (f x) (f y))
pairs_mapped R f (x ∷ xs) h =
    AllPairs-cons (λ x y. R (f x) (f y)) x xs (all_mapped (R (f x)) f xs (pairs_head R (f x) (map f xs) h))
    (pairs_mapped R f xs (pairs_tail R (f x) (map f xs) h))
  where
    all_mapped : {A B : Type 0} (P : B → Type 0) (f : A → B) (ys : List A) → All P (map f ys) → All (λ y. P (f y)) ys
    all_mapped P f ys all k d within =
        let there : get_or (map f ys) k (f d) ≡ f (get_or ys k d) = get_or-map f ys k d (f d) within in
        subst P there (all k (f d) (omega (arith, within, length-map ys f)))

-- elements that pass
kept_all : {A : Type 0} (P : A → Type 0) (b : Bool) (x : A) (xs : List A) → All P (cond b (x ∷ xs) xs) → All P xs
kept_all P true x xs h = λ k d within. h (suc k) d (omega (arith, within))
kept_all P false x xs h = h

all_that_pass : {A : Type 0} (P : A → Type 0) (p : A → Bool) (xs : List A) → All P (filter p xs) → (k : ℕ) (d : A) → k < length xs → p (get_or xs k d) ≡ true
    → P (get_or xs k d)
all_that_pass P p [] h k d within passes = absurd (omega (arith, within))
all_that_pass P p (x ∷ xs) h zero d within passes =
    let whole : filter p (x ∷ xs) ≡ x ∷ filter p xs = ap (λ (b : Bool). cond b (x ∷ filter p xs) (filter p xs)) passes in
    subst (λ l. All P l) whole h zero d (omega arith)
all_that_pass P p (x ∷ xs) h (suc k) d within passes =
    all_that_pass P p xs (kept_all P (p x) x (filter p xs) h) k d (omega (arith, within)) passes

-- elements that tie
module _ {A : Type 0} (R : A → A → Type 0) (tie : A → A → Bool) (itself : (x : A) → tie x x ≡ true) where
  tied_pairs : (xs : List A) → ((x : A) → AllPairs R (filter (tie x) xs)) → AllPairs (λ x y. tie x y ≡ true → R x y) xs
  tied_pairs [] h = pairs_none (λ x y. tie x y ≡ true → R x y)
  tied_pairs (x ∷ xs) h =
      let whole : filter (tie x) (x ∷ xs) ≡ x ∷ filter (tie x) xs = ap (λ (b : Bool). cond b (x ∷ filter (tie x) xs) (filter (tie x) xs)) (itself x) in
      let first = pairs_head R x (filter (tie x) xs) (subst (λ l. AllPairs R l) whole (h x)) in
      AllPairs-cons (λ x y. tie x y ≡ true → R x y) x xs (λ k d within. all_that_pass (R x) (tie x) xs first k d within)
      (tied_pairs xs (λ y. kept_tail R (tie y x) x (filter (tie y) xs) (h y)))

-- a stable sort leaves those that tie in their order
pub stable_pairs : {A : Type 0} (R : A → A → Type 0) (lt : A → A → Bool) → ((x : A) → ties lt x x ≡ true) → (xs ys : List A) → AllPairs R xs → IsStableBy lt xs ys
    → AllPairs (λ x y. ties lt x y ≡ true → R x y) ys
stable_pairs {A} R lt itself xs ys h stable =
    tied_pairs R (ties lt) itself ys (λ x. subst (λ (l : List A). AllPairs R l) (sym (stable x)) (AllPairs-filter R (ties lt x) xs h))
