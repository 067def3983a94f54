-- Items of code and the numbers that they represent.
use Rattle.std.proofs.Common.{sym, ◌++◌, ◌&&◌, Bool, true, nat_eq, inl, inr, ◌≡◌, ◌<◌, ◌↔◌, ◌∙◌, ℕ, suc, zero, List, [], ◌∷◌, map, slice_index_or, subst, ap, refl, arith}
use Rattle.std.proofs.Math.ListN.{get_or-map}
use Rattle.std.proofs.lemmas.List.{length-map}
use Rattle.std.proofs.lemmas.Bool.{and_parts, eqb-true}
use Rattle.std.proofs.lemmas.Cmp.{ranked}
use Rattle.std.proofs.lemmas.List.Elements.{Contains-append_left, Contains-push, Contains-push_cases}
use Rattle.std.specs.Ordering.{nat_cmp, ordering_then}
use Rattle.std.specs.List.Sorted.{IsStrictlySortedBy}
use Rattle.std.specs.declared.cmp.Ordering.{Ordering}
use Rattle.std.specs.declared.cmp.Ordering.TheVariants.{Less, Equal, Greater}
use Rattle.std.specs.List.{AllByRecursion, Contains, AllZip}
use Rattle.lrpar_grammar_places.specs.declared.span.PIdx.{PIdx}
use Rattle.lrpar_grammar_places.specs.declared.span.TIdx.{TIdx}
use Rattle.lrpar_table_rows.specs.Ascending.{HaveSame}
use Rattle.lrpar_table_rows.specs.Graph.{AreWithCore, ItemOf, core_cmp, item_at, item_cmp}
use Rattle.lrpar_table_rows.specs.PlainItems.{AreBegunOf, AreCoresOf, core_of, item_of}

-- what comes before all of a row has its image before all of the row's image
first_image : {X Y : Type 0} (R : X → X → Ordering) (Q : Y → Y → Ordering) (f : X → Y) → ((x y : X) → R x y ≡ Q (f x) (f y)) → (x : X)
    → (xs : List X) → AllByRecursion (λ y. R x y ≡ Less) xs → AllByRecursion (λ y. Q (f x) y ≡ Less) (map f xs)
first_image R Q f same x [] h = h
first_image R Q f same x (y ∷ ys) h = (sym (same x y) ∙ h.0, first_image R Q f same x ys h.1)

-- the image of an element is in the image of the list
pub Contains-image : {X Y : Type 0} (f : X → Y) (xs : List X) (x : X) → Contains xs x → Contains (map f xs) (f x)
Contains-image f xs x h = (h.0, rw length-map h.1, get_or-map f xs h.0 x ∙ ap f h.2)

-- each element of the image of a list is the image of one of its elements
pub Contains-preimage : {X Y : Type 0} (f : X → Y) (xs : List X) (y : Y) → Contains (map f xs) y → (x : X) × Contains xs x × (f x ≡ y)
Contains-preimage f [] y h = absurd (omega arith)
Contains-preimage f (x ∷ xs) y (zero, below, is) = (x, (0, omega arith, refl), is)
Contains-preimage f (x ∷ xs) y (suc k, below, is) =
    let more = Contains-preimage f xs y (k, omega arith, is) in
    (more.0, (suc more.1.0, omega (arith, more.1.1), more.1.2), more.2)

-- lists with the same elements have images with the same elements
pub HaveSame-map : {X Y : Type 0} (f : X → Y) (xs ys : List X) → HaveSame xs ys → HaveSame (map f xs) (map f ys)
HaveSame-map f xs ys same y = (
  λ h. let x = Contains-preimage f xs y h in subst (Contains (map f ys)) x.2 (Contains-image f ys x.0 ((same x.0).0 x.1)),
  λ h. let x = Contains-preimage f ys y h in subst (Contains (map f xs)) x.2 (Contains-image f xs x.0 ((same x.0).1 x.1)),
)

-- numbers with the same index are the same
pub exact_index : {S : Type 0} (index : S → ℕ) (at_index : ℕ → S) → ((x : S) → at_index (index x) ≡ x) → (x y : S) → index x ≡ index y → x ≡ y
exact_index index at_index law x y e = sym (law x) ∙ ap at_index e ∙ law y

-- if two comparisons one after the other tie, each of them ties
then_ties : (a b : Ordering) → ordering_then a b ≡ Equal → (a ≡ Equal) × (b ≡ Equal)
then_ties Less b h = absurd (cc)
then_ties Equal b h = (refl, h)
then_ties Greater b h = absurd (cc)

module _ {S : Type 0} (index : S → ℕ) (exact : (x y : S) → index x ≡ index y → x ≡ y) where
  -- a production of the same number is the same
  same_prod : (p q : PIdx S) → index p.0 ≡ index q.0 → p ≡ q
  same_prod p q e = ap (λ (v : S). let made : PIdx S = record { 0 = v } in made) (exact p.0 q.0 e)

  -- a token of the same number is the same
  same_token : (t u : TIdx S) → index t.0 ≡ index u.0 → t ≡ u
  same_token t u e = ap (λ (v : S). let made : TIdx S = record { 0 = v } in made) (exact t.0 u.0 e)

  -- if numbers compare as their indexes do, cores that compare equal are the same
  pub cores_compare_exactly : (cmp : S → S → Ordering) → ((a b : S) → cmp a b ≡ nat_cmp (index a) (index b)) → (x y : PIdx S × ℕ)
      → ordering_then (cmp x.0.0 y.0.0) (nat_cmp x.1 y.1) ≡ Equal → x ≡ y
  cores_compare_exactly cmp law x y h =
      let ties = then_ties _ _ h in
      let prod : x.0 ≡ y.0 = same_prod x.0 y.0 (ranked (index x.0.0) (index y.0.0) Equal (sym ties.0 ∙ law x.0.0 y.0.0)) in
      let dot : x.1 ≡ y.1 = ranked x.1 y.1 Equal (sym ties.1) in
      let is : (x.0, x.1) ≡ (y.0, y.1) = cc in is

  -- so are items that compare equal
  pub items_compare_exactly : (cmp : S → S → Ordering) → ((a b : S) → cmp a b ≡ nat_cmp (index a) (index b)) → (x y : PIdx S × ℕ × TIdx S)
      → ordering_then (ordering_then (cmp x.0.0 y.0.0) (nat_cmp x.1 y.1)) (cmp x.2.0 y.2.0) ≡ Equal → x ≡ y
  items_compare_exactly cmp law x y h =
      let ties = then_ties _ _ h in
      let core = cores_compare_exactly cmp law (x.0, x.1) (y.0, y.1) ties.0 in
      let prod : x.0 ≡ y.0 = ap (λ (c : PIdx S × ℕ). c.0) core in
      let dot : x.1 ≡ y.1 = ap (λ (c : PIdx S × ℕ). c.1) core in
      let token : x.2 ≡ y.2 = same_token x.2 y.2 (ranked (index x.2.0) (index y.2.0) Equal (sym ties.1 ∙ law x.2.0 y.2.0)) in
      let is : (x.0, x.1, x.2) ≡ (y.0, y.1, y.2) = cc in is

  -- so are cores that a test says are equal
  pub cores_same_by_test : (eq : S → S → Bool) → ((a b : S) → eq a b ≡ nat_eq (index a) (index b)) → (x y : PIdx S × ℕ)
      → (eq x.0.0 y.0.0 && nat_eq x.1 y.1) ≡ true → x ≡ y
  cores_same_by_test eq law x y h =
      let parts = and_parts _ _ h in
      let prod : x.0 ≡ y.0 = same_prod x.0 y.0 (eqb-true _ _ (sym (law x.0.0 y.0.0) ∙ parts.0)) in
      let dot : x.1 ≡ y.1 = eqb-true _ _ parts.1 in
      let is : (x.0, x.1) ≡ (y.0, y.1) = cc in is

  -- a list has an item exactly if its image has the item's numbers
  pub item_by_numbers : (items : List (PIdx S × ℕ × TIdx S)) (p : PIdx S) (k : ℕ) (t : TIdx S)
      → Contains items (p, k, t) ↔ Contains (map (item_of index) items) (item_at (index p.0) k (index t.0))
  item_by_numbers items p k t = (
    λ h. Contains-image (item_of index) items (p, k, t) h,
    λ h.
        let x = Contains-preimage (item_of index) items _ h in
        let prod : x.0.0 ≡ p = same_prod x.0.0 p (ap (λ (i : ItemOf). i.prod) x.2) in
        let dot : x.0.1 ≡ k = ap (λ (i : ItemOf). i.dot) x.2 in
        let token : x.0.2 ≡ t = same_token x.0.2 t (ap (λ (i : ItemOf). i.token) x.2) in
        let is : (x.0.0, x.0.1, x.0.2) ≡ (p, k, t) = cc in
        subst (Contains items) is x.1,
  )

  -- the cores have a core exactly if the image of the items has its numbers
  pub core_by_numbers : (items : List (PIdx S × ℕ × TIdx S)) (cores : List (PIdx S × ℕ)) (p : PIdx S) (k : ℕ)
      → AreCoresOf items cores → Contains cores (p, k) ↔ AreWithCore (map (item_of index) items) (index p.0) k
  core_by_numbers items cores p k of = (
    λ h. let t = (of p k).0 h in (index t.0.0, (item_by_numbers items p k t.0).0 t.1),
    λ h.
        let x = Contains-preimage (item_of index) items _ h.1 in
        let prod : x.0.0 ≡ p = same_prod x.0.0 p (ap (λ (i : ItemOf). i.prod) x.2) in
        let dot : x.0.1 ≡ k = ap (λ (i : ItemOf). i.dot) x.2 in
        let is : (x.0.0, x.0.1, x.0.2) ≡ (p, k, x.0.2) = cc in
        (of p k).1 (x.0.2, subst (Contains items) is x.1),
  )

-- the images of items and cores agree too
pub cores_by_numbers : {S : Type 0} (index : S → ℕ) (items : List (PIdx S × ℕ × TIdx S)) (cores : List (PIdx S × ℕ)) → AreCoresOf items cores
    → (p k : ℕ) → AreWithCore (map (item_of index) items) p k ↔ Contains (map (core_of index) cores) (p, k)
cores_by_numbers index items cores of p k = (
  λ h.
      let x = Contains-preimage (item_of index) items _ h.1 in
      let prod : index x.0.0.0 ≡ p = ap (λ (i : ItemOf). i.prod) x.2 in
      let dot : x.0.1 ≡ k = ap (λ (i : ItemOf). i.dot) x.2 in
      let is : (index x.0.0.0, x.0.1) ≡ (p, k) = cc in
      subst (Contains (map (core_of index) cores)) is (Contains-image (core_of index) cores (x.0.0, x.0.1) ((of x.0.0 x.0.1).1 (x.0.2, x.1))),
  λ h.
      let c = Contains-preimage (core_of index) cores _ h in
      let prod : index c.0.0.0 ≡ p = ap (λ (i : ℕ × ℕ). i.0) c.2 in
      let dot : c.0.1 ≡ k = ap (λ (i : ℕ × ℕ). i.1) c.2 in
      let t = (of c.0.0 c.0.1).0 c.1 in
      let has = Contains-image (item_of index) items (c.0.0, c.0.1, t.0) t.1 in
      let is : item_at (index c.0.0.0) c.0.1 (index t.0.0) ≡ item_at p k (index t.0.0) = cc in
      (index t.0.0, subst (Contains (map (item_of index) items)) is has),
)

-- the same of the images of items and of the cores whose dot isn't at the start
pub begun_by_numbers : {S : Type 0} (index : S → ℕ) (items : List (PIdx S × ℕ × TIdx S)) (cores begun : List (PIdx S × ℕ)) → AreCoresOf items cores
    → AreBegunOf cores begun → (p k : ℕ) → (AreWithCore (map (item_of index) items) p k × (0 < k)) ↔ Contains (map (core_of index) begun) (p, k)
begun_by_numbers {S} index items cores begun of are p k = (
  λ h.
      let c = Contains-preimage (core_of index) cores (p, k) ((cores_by_numbers index items cores of p k).0 h.0) in
      let some = subst (λ (i : ℕ × ℕ). 0 < i.1) (sym c.2) h.1 in
      subst (Contains (map (core_of index) begun)) c.2 (Contains-image (core_of index) begun c.0 ((are c.0.0 c.0.1).1 (c.1, some))),
  λ h.
      let c = Contains-preimage (core_of index) begun (p, k) h in
      let has = (are c.0.0 c.0.1).0 c.1 in (
        (cores_by_numbers index items cores of p k).1 (subst (Contains (map (core_of index) cores)) c.2 (Contains-image (core_of index) cores c.0 has.0)),
        subst (λ (i : ℕ × ℕ). 0 < i.1) c.2 has.1,
      ),
)

-- one more core, whose dot isn't at the start, or is
module _ {S : Type 0} (seen begun : List (PIdx S × ℕ)) (core : PIdx S × ℕ) (are : AreBegunOf seen begun) where
  pub begun_more : 0 < core.1 → AreBegunOf (seen ++ core ∷ []) (begun ++ core ∷ [])
  begun_more some p k = (
    λ h.
        elim (Contains-push_cases begun core (p, k) h) as (λ _. Contains (seen ++ core ∷ []) (p, k) × (0 < k)) [
          | inl before ↦ let has = (are p k).0 before in (Contains-append_left seen (core ∷ []) (p, k) has.0, has.1)
          | inr last ↦ (subst (Contains (seen ++ core ∷ [])) last (Contains-push seen core), subst (λ (c : PIdx S × ℕ). 0 < c.1) last some)
        ],
    λ h.
        elim (Contains-push_cases seen core (p, k) h.0) as (λ _. Contains (begun ++ core ∷ []) (p, k)) [
          | inl before ↦ Contains-append_left begun (core ∷ []) (p, k) ((are p k).1 (before, h.1))
          | inr last ↦ subst (Contains (begun ++ core ∷ [])) last (Contains-push begun core)
        ],
  )

  pub begun_no_more : core.1 ≡ 0 → AreBegunOf (seen ++ core ∷ []) begun
  begun_no_more none p k = (
    λ h. let has = (are p k).0 h in (Contains-append_left seen (core ∷ []) (p, k) has.0, has.1),
    λ h.
        elim (Contains-push_cases seen core (p, k) h.0) as (λ _. Contains begun (p, k)) [
          | inl before ↦ (are p k).1 (before, h.1)
          | inr last ↦
              let zero : k ≡ 0 = sym (ap (λ (c : PIdx S × ℕ). c.1) last) ∙ none in
              let some = h.1 in absurd (omega (arith, zero, some))
        ],
  )

-- one more element on each side
pub HaveSame-push : {X : Type 0} (xs ys zs : List X) (y : X) → HaveSame xs ys → HaveSame zs (xs ++ y ∷ []) → HaveSame zs (ys ++ y ∷ [])
HaveSame-push xs ys zs y same pushed x = (
  λ h.
      elim (Contains-push_cases xs y x ((pushed x).0 h)) as (λ _. Contains (ys ++ y ∷ []) x) [
        | inl before ↦ Contains-append_left ys (y ∷ []) x ((same x).0 before)
        | inr last ↦ subst (Contains (ys ++ y ∷ [])) last (Contains-push ys y)
      ],
  λ h. (pushed x).1 (
      elim (Contains-push_cases ys y x h) as (λ _. Contains (xs ++ y ∷ []) x) [
        | inl before ↦ Contains-append_left xs (y ∷ []) x ((same x).1 before)
        | inr last ↦ subst (Contains (xs ++ y ∷ [])) last (Contains-push xs y)
      ]),
)

-- the production and the dot of an item
abbrev pub core_part : {S : Type 0} → PIdx S × ℕ × TIdx S → PIdx S × ℕ
core_part x = (x.0, x.1)

-- the productions and dots of a list are its cores
pub cores_from_same : {S : Type 0} (items : List (PIdx S × ℕ × TIdx S)) (cores : List (PIdx S × ℕ))
    → HaveSame cores (map core_part items) → AreCoresOf items cores
cores_from_same {S} items cores same p k = (
  λ h.
      let x = Contains-preimage core_part items (p, k) ((same (p, k)).0 h) in
      let prod : x.0.0 ≡ p = ap (λ (c : PIdx S × ℕ). c.0) x.2 in
      let dot : x.0.1 ≡ k = ap (λ (c : PIdx S × ℕ). c.1) x.2 in
      let is : (x.0.0, x.0.1, x.0.2) ≡ (p, k, x.0.2) = cc in
      (x.0.2, subst (Contains items) is x.1),
  λ h. (same (p, k)).1 (Contains-image core_part items (p, k, h.0) h.1),
)

-- rows with the same elements have them at each place, and at no place past the end
pub same_at_each : {X : Type 0} (xs ys : List (List X)) → AllZip HaveSame xs ys → (s : ℕ) → HaveSame (slice_index_or xs s []) (slice_index_or ys s [])
same_at_each [] [] all s = λ x. (λ h. h, λ h. h)
same_at_each [] (y ∷ ys) all s = absurd all
same_at_each (x ∷ xs) [] all s = absurd all
same_at_each (x ∷ xs) (y ∷ ys) all zero = all.0
same_at_each (x ∷ xs) (y ∷ ys) all (suc s) = same_at_each xs ys all.1 s

-- if a row is in order, and its image is ordered alike, the image is in order
pub sorted_image : {X Y : Type 0} (R : X → X → Ordering) (Q : Y → Y → Ordering) (f : X → Y) → ((x y : X) → R x y ≡ Q (f x) (f y))
    → (xs : List X) → IsStrictlySortedBy R xs → IsStrictlySortedBy Q (map f xs)
unfolding IsStrictlySortedBy
sorted_image R Q f same [] h = h
sorted_image R Q f same (x ∷ xs) h = (first_image R Q f same x xs h.0, sorted_image R Q f same xs h.1)

-- if numbers compare as their indexes do, so do items
pub same_item_order : {S : Type 0} (index : S → ℕ) (cmp : S → S → Ordering) → ((a b : S) → cmp a b ≡ nat_cmp (index a) (index b))
    → (x y : PIdx S × ℕ × TIdx S)
    → ordering_then (ordering_then (cmp x.0.0 y.0.0) (nat_cmp x.1 y.1)) (cmp x.2.0 y.2.0) ≡ item_cmp (item_of index x) (item_of index y)
same_item_order index cmp law x y =
    let prod = law x.0.0 y.0.0 in
    let token = law x.2.0 y.2.0 in
    ap (λ (o : Ordering). ordering_then (ordering_then o (nat_cmp x.1 y.1)) (cmp x.2.0 y.2.0)) prod
    ∙ ap (λ (o : Ordering). ordering_then (ordering_then (nat_cmp (index x.0.0) (index y.0.0)) (nat_cmp x.1 y.1)) o) token

-- if numbers compare as their indexes do, so do cores
pub same_core_order : {S : Type 0} (index : S → ℕ) (cmp : S → S → Ordering) → ((a b : S) → cmp a b ≡ nat_cmp (index a) (index b))
    → (x y : PIdx S × ℕ) → ordering_then (cmp x.0.0 y.0.0) (nat_cmp x.1 y.1) ≡ core_cmp (core_of index x) (core_of index y)
same_core_order index cmp law x y = ap (λ (o : Ordering). ordering_then o (nat_cmp x.1 y.1)) (law x.0.0 y.0.0)

-- cores that compare equal are the same, since each index has its own number
pub cores_exactly : {S : Type 0} (index : S → ℕ) (at_index : ℕ → S) (cmp : S → S → Ordering) → ((x : S) → at_index (index x) ≡ x)
    → ((a b : S) → cmp a b ≡ nat_cmp (index a) (index b)) → (x y : PIdx S × ℕ) → ordering_then (cmp x.0.0 y.0.0) (nat_cmp x.1 y.1) ≡ Equal → x ≡ y
cores_exactly index at_index cmp law cmp_law = cores_compare_exactly index (exact_index index at_index law) cmp cmp_law
