-- The conflicts that precedences leave: those in marked states, and the others.
use Rattle.std.proofs.Common.{◌≡◌, ◌<◌, ◌+◌, ◌∙◌, refl, sym, ap, subst, ℕ, Bool, true, false, cond, List, [], ◌∷◌, ◌++◌, Option, Some, None, get_or, length, map, not, take}
use Rattle.std.specs.Option.{is_none, is_some}
use Rattle.std.proofs.lemmas.Bool.{false≢true}
use Rattle.std.specs.List.{Contains, filter}
use Rattle.std.proofs.lemmas.List.{append-nil, map-append}
use Rattle.std.proofs.lemmas.List.Elements.{filter-append}
use Rattle.lrpar_grammar_places.proofs.ListLemmas.{map-take_more}
use Rattle.lrpar_table_precedence.specs.Precedence.{PrecedenceLists}
use Rattle.lrpar_table_rows.specs.Table.{ConflictLists, ReduceReduce}
use Rattle.lrpar_table_build.proofs.MemberLemmas.{filter_member}
use Rattle.lrpar_table_sentences.specs.Reachable.{is_marked}
use Rattle.lrpar_conflict_examples.specs.Conflicts.{AreAmong, ConflictOf, conflicts_in, of_reductions, of_shift}
use Rattle.lrpar_conflict_examples.specs.Met.{conflicts_left, is_unresolved, marked_ones, other_ones}

-- one element more, which passes the test or doesn't
filter_yes : {X : Type 0} (p : X → Bool) (xs : List X) (y : X) → p y ≡ true → filter p (xs ++ y ∷ []) ≡ filter p xs ++ y ∷ []
filter_yes p xs y is = filter-append p xs (y ∷ []) ∙ ap (λ b. filter p xs ++ cond b (y ∷ []) []) is

filter_no : {X : Type 0} (p : X → Bool) (xs : List X) (y : X) → p y ≡ false → filter p (xs ++ y ∷ []) ≡ filter p xs
filter_no p xs y is = filter-append p xs (y ∷ []) ∙ ap (λ b. filter p xs ++ cond b (y ∷ []) []) is ∙ append-nil (filter p xs)

-- whether there is nothing, by whether there is something
pub none_by : {X : Type 0} (o : Option X) (b : Bool) → is_some o ≡ not b → is_none o ≡ b
none_by None true is = refl
none_by None false is = absurd (false≢true is)
none_by (Some x) true is = absurd (false≢true (sym is))
none_by (Some x) false is = refl

-- the images that pass a test
filter_image : {X Y : Type 0} (f : X → Y) (p : Y → Bool) (xs : List X) → map f (filter (λ x. p (f x)) xs) ≡ filter p (map f xs)
filter_image f p [] = refl
filter_image f p (x ∷ xs) =
    elim (p (f x)) as (λ b. map f (cond b (x ∷ filter (λ z. p (f z)) xs) (filter (λ z. p (f z)) xs)) ≡ cond b (f x ∷ filter p (map f xs)) (filter p (map f xs))) [
      | true ↦ ap (λ ys. f x ∷ ys) (filter_image f p xs)
      | false ↦ filter_image f p xs
    ]

-- the conflicts that precedences leave are those of all that pass the test
reductions_left : (p : PrecedenceLists) (xs : List ReduceReduce) → filter (is_unresolved p) (map of_reductions xs) ≡ map of_reductions xs
reductions_left p [] = refl
reductions_left p (x ∷ xs) = ap (λ l. of_reductions x ∷ l) (reductions_left p xs)

pub all_left : (p : PrecedenceLists) (lists : ConflictLists) → filter (is_unresolved p) (conflicts_in lists) ≡ conflicts_left p lists
all_left p lists =
    filter-append (is_unresolved p) (map of_reductions lists.reduce_reduce) (map of_shift lists.shift_reduce)
    ∙ ap (λ l. l ++ filter (is_unresolved p) (map of_shift lists.shift_reduce)) (reductions_left p lists.reduce_reduce)
    ∙ ap (λ l. map of_reductions lists.reduce_reduce ++ l) (sym (filter_image of_shift (is_unresolved p) lists.shift_reduce))

-- so those of them that pass another test are among all
pub among_left : (p : PrecedenceLists) (marks : List Bool) (lists : ConflictLists) (xs : List ConflictOf) → xs ≡ marked_ones marks (conflicts_left p lists)
    → AreAmong xs (conflicts_in lists)
among_left p marks lists xs are = λ x there.
    let marked = filter_member (λ (c : ConflictOf). is_marked marks c.state) (conflicts_left p lists) x (subst (λ l. Contains l x) are there) in
    (filter_member (is_unresolved p) (conflicts_in lists) x (subst (λ l. Contains l x) (sym (all_left p lists)) marked.0)).0

-- at first there are none
pub none_parted : {U : Type 0} (shown : U → ConflictOf) (marks : List Bool) (p : PrecedenceLists) (xs met other : List U) → met ≡ [] → other ≡ []
    → (map shown met ≡ marked_ones marks (filter (is_unresolved p) (map shown (take 0 xs))))
    × (map shown other ≡ other_ones marks (filter (is_unresolved p) (map shown (take 0 xs))))
none_parted shown marks p xs met other first second =
    let none : map shown (take 0 xs) ≡ [] =
    elim xs as (λ l. map shown (take 0 l) ≡ []) [
      | [] ↦ refl
      | y ∷ ys ↦ refl
    ] in (
      ap (map shown) first ∙ sym (ap (λ l. marked_ones marks (filter (is_unresolved p) l)) none),
      ap (map shown) second ∙ sym (ap (λ l. other_ones marks (filter (is_unresolved p) l)) none),
    )

-- one conflict more: in the first list if it is left and its state is marked, in the second if it is left and its state isn't marked
module _ {U : Type 0} (shown : U → ConflictOf) (marks : List Bool) (p : PrecedenceLists) (xs : List U) (i : ℕ) (x : U) (low : i < length xs) (is : x ≡ get_or xs i x)
    (met other : List U) (met_are : map shown met ≡ marked_ones marks (filter (is_unresolved p) (map shown (take i xs))))
    (others_are : map shown other ≡ other_ones marks (filter (is_unresolved p) (map shown (take i xs)))) where
  abbrev before : List ConflictOf
  before = filter (is_unresolved p) (map shown (take i xs))

  abbrev after : List ConflictOf
  after = filter (is_unresolved p) (map shown (take (i + 1) xs))

  abbrev Parted : List U → List U → Type 0
  Parted first second = (map shown first ≡ marked_ones marks after) × (map shown second ≡ other_ones marks after)

  grown : is_unresolved p (shown x) ≡ true → before ++ shown x ∷ [] ≡ after
  grown passed = sym (ap (filter (is_unresolved p)) (map-take_more shown xs i x low is) ∙ filter_yes (is_unresolved p) (map shown (take i xs)) (shown x) passed)

  pushed : (q : ConflictOf → Bool) (old new : List U) → map shown old ≡ filter q before → new ≡ old ++ x ∷ [] → is_unresolved p (shown x) ≡ true
      → q (shown x) ≡ true → map shown new ≡ filter q after
  pushed q old new are put passed passes =
      ap (map shown) put ∙ map-append shown old (x ∷ []) ∙ ap (λ l. l ++ shown x ∷ []) are ∙ sym (filter_yes q before (shown x) passes)
      ∙ ap (filter q) (grown passed)

  stays : (q : ConflictOf → Bool) (old : List U) → map shown old ≡ filter q before → is_unresolved p (shown x) ≡ true → q (shown x) ≡ false
      → map shown old ≡ filter q after
  stays q old are passed fails = are ∙ sym (filter_no q before (shown x) fails) ∙ ap (filter q) (grown passed)

  pub one_met : (new : List U) → new ≡ met ++ x ∷ [] → is_unresolved p (shown x) ≡ true → is_marked marks (shown x).state ≡ true → Parted new other
  one_met new put passed marked = (
    pushed (λ (c : ConflictOf). is_marked marks c.state) met new met_are put passed marked,
    stays (λ (c : ConflictOf). not (is_marked marks c.state)) other others_are passed (ap not marked),
  )

  pub one_unmet : (new : List U) → new ≡ other ++ x ∷ [] → is_unresolved p (shown x) ≡ true → is_marked marks (shown x).state ≡ false → Parted met new
  one_unmet new put passed unmarked = (
    stays (λ (c : ConflictOf). is_marked marks c.state) met met_are passed unmarked,
    pushed (λ (c : ConflictOf). not (is_marked marks c.state)) other new others_are put passed (ap not unmarked),
  )

  pub none_left : is_unresolved p (shown x) ≡ false → Parted met other
  none_left failed =
      let same : before ≡ after =
      sym (ap (filter (is_unresolved p)) (map-take_more shown xs i x low is) ∙ filter_no (is_unresolved p) (map shown (take i xs)) (shown x) failed) in
      (met_are ∙ ap (marked_ones marks) same, others_are ∙ ap (other_ones marks) same)
