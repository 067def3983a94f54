-- Comparisons and clones of lists of repairs, for the repairs that contracts see.
use Rattle.std.proofs.Common.{◌∙◌, ◌≡◌, ℕ, Bool, List, [], ◌∷◌, refl, Vec, vec_len}
use Rattle.std.specs.Prelude.{map, false, ◌==◌, ◌&&◌}
use Rattle.std.specs.List.{AllZip, each_same}
use Rattle.std.specs.Cmp.Lexicographic.{pointwise}
use Rattle.lrpar_grammar_places.specs.declared.span.TIdx.{TIdx}
use Rattle.lrpar_parse_lexemes.specs.declared.repairs.ParseRepair.{ParseRepair}
use Rattle.lrpar_parse_lexemes.specs.declared.repairs.ParseRepair.TheVariants.{Insert, Delete, Shift}
use Rattle.lrpar_parse_lexemes.specs.Repair.{repair_eq}
use Rattle.lrpar_parse_lexemes.specs.Repairs.{repair_of, repairs_of}

-- contracts see clones of repair sequences as the same repairs
pub repairs_clone : {X S A : Type 0} (index : S → ℕ) (xs ys : List (Vec (ParseRepair X S) A))
    → AllZip (λ v w. AllZip (λ x y. y ≡ x) v.items w.items × (vec_len w ≡ vec_len v)) xs ys
    → repairs_of index ys ≡ repairs_of index xs
repairs_clone index [] [] h = refl
repairs_clone index [] (w ∷ ws) h = absurd h
repairs_clone index (v ∷ vs) [] h = absurd h
repairs_clone index (v ∷ vs) (w ∷ ws) h =
    λ i. map (repair_of index) (each_same v.items w.items h.0.0 i) ∷ repairs_clone index vs ws h.1 i

-- a comparison of repairs that is right for each kind is that of the repairs that contracts see
pub repair_alike : {X S : Type 0} (index : S → ℕ) (eq : X → X → Bool) (same : ParseRepair X S → ParseRepair X S → Bool)
    → (inserts : (t u : TIdx S) → same (Insert t) (Insert u) ≡ (index t.0 == index u.0))
    → (deletes : (x y : X) → same (Delete x) (Delete y) ≡ eq x y)
    → (shifts : (x y : X) → same (Shift x) (Shift y) ≡ eq x y)
    → (insert_delete : (t : TIdx S) (y : X) → same (Insert t) (Delete y) ≡ false)
    → (insert_shift : (t : TIdx S) (y : X) → same (Insert t) (Shift y) ≡ false)
    → (delete_insert : (x : X) (u : TIdx S) → same (Delete x) (Insert u) ≡ false)
    → (delete_shift : (x y : X) → same (Delete x) (Shift y) ≡ false)
    → (shift_insert : (x : X) (u : TIdx S) → same (Shift x) (Insert u) ≡ false)
    → (shift_delete : (x y : X) → same (Shift x) (Delete y) ≡ false)
    → (x y : ParseRepair X S) → same x y ≡ repair_eq eq (repair_of index x) (repair_of index y)
repair_alike index eq same ii dd ss ind ins di ds si sd (Insert t) (Insert u) = ii t u
repair_alike index eq same ii dd ss ind ins di ds si sd (Insert t) (Delete y) = ind t y
repair_alike index eq same ii dd ss ind ins di ds si sd (Insert t) (Shift y) = ins t y
repair_alike index eq same ii dd ss ind ins di ds si sd (Delete x) (Insert u) = di x u
repair_alike index eq same ii dd ss ind ins di ds si sd (Delete x) (Delete y) = dd x y
repair_alike index eq same ii dd ss ind ins di ds si sd (Delete x) (Shift y) = ds x y
repair_alike index eq same ii dd ss ind ins di ds si sd (Shift x) (Insert u) = si x u
repair_alike index eq same ii dd ss ind ins di ds si sd (Shift x) (Delete y) = sd x y
repair_alike index eq same ii dd ss ind ins di ds si sd (Shift x) (Shift y) = ss x y

module _ {X S : Type 0} (index : S → ℕ) (eq : X → X → Bool) (same : ParseRepair X S → ParseRepair X S → Bool)
    (alike : (x y : ParseRepair X S) → same x y ≡ repair_eq eq (repair_of index x) (repair_of index y)) where
  -- a comparison of repair sequences is that of the repairs that contracts see
  pub sequence_eq : (xs ys : List (ParseRepair X S))
      → pointwise same xs ys ≡ pointwise (repair_eq eq) (map (repair_of index) xs) (map (repair_of index) ys)
  sequence_eq [] [] = refl
  sequence_eq [] (y ∷ ys) = refl
  sequence_eq (x ∷ xs) [] = refl
  sequence_eq (x ∷ xs) (y ∷ ys) = λ i. alike x y i && sequence_eq xs ys i

  -- the same for lists of them
  pub repairs_eq : {A : Type 0} (xs ys : List (Vec (ParseRepair X S) A))
      → pointwise (λ v w. pointwise same v.items w.items) xs ys
      ≡ pointwise (pointwise (repair_eq eq)) (repairs_of index xs) (repairs_of index ys)
  repairs_eq [] [] = refl
  repairs_eq [] (w ∷ ws) = refl
  repairs_eq (v ∷ vs) [] = refl
  repairs_eq (v ∷ vs) (w ∷ ws) = λ i. sequence_eq v.items w.items i && repairs_eq vs ws i

  -- the same for the result of such a comparison
  pub answer_eq : {A : Type 0} (xs ys : List (Vec (ParseRepair X S) A)) (answer : Bool)
      → answer ≡ pointwise (λ v w. pointwise same v.items w.items) xs ys
      → answer ≡ pointwise (pointwise (repair_eq eq)) (repairs_of index xs) (repairs_of index ys)
  answer_eq xs ys answer h = h ∙ repairs_eq xs ys
