-- Whether some sequence of an answer works, one sequence after the other; and recoverers that always repair.
use Rattle.std.proofs.Common.{◌≡◌, ◌<◌, ◌≤◌, ◌+◌, ◌∙◌, ◌↔◌, inl, inr, ℕ, List, [], ◌∷◌, ◌++◌, Bool, false, All, Contains, Vec, ap, arith, get_or, length, map, subst, sym, take, drop}
use Rattle.std.specs.Prelude.{IsTrue}
use Rattle.std.specs.List.{sum_by}
use Rattle.std.proofs.lemmas.List.{map-append, take-append-drop, take_all, take_more}
use Rattle.std.proofs.lemmas.List.Elements.{All-contains, All-push}
use Rattle.std.proofs.lemmas.List.Sums.{sum_by-append}
use Rattle.lrpar_grammar.specs.Grammar.{Grammar}
use Rattle.lrpar_table_rows.specs.Table.{Table}
use Rattle.lrpar_table_check.specs.Checked.{Checked}
use Rattle.lrpar_table_stacks.specs.Overlay.{OverlayReduces, OverlayShifts, Overlaid, overlaid}
use Rattle.lrpar_parse_repair.specs.AlwaysRepairs.{AlwaysRepairs, FirstOrSecond, SomeWorks}
use Rattle.lrpar_parse_repair.specs.Asked.{Asked}
use Rattle.lrpar_parse_repair.specs.Moves.{AreTestsWithin, IsMovedWithin, at_base}
use Rattle.lrpar_parse_repair.specs.PlainSteps.{plain_sequences, plain_steps}
use Rattle.lrpar_parse_repair.specs.Sequences.{PlainStep, Works}
use Rattle.lrpar_parse_repair.specs.TestWork.{most_listed, most_tested}
use Rattle.lrpar_parse_repair.specs.declared.repair_step.RepairStep.{RepairStep}
use Rattle.lrpar_parse_repair.proofs.EngineLemmas.{tested_more}

module _ {A B : Type 0} (f : A → B) (P : B → Type 0) where
  -- the images of the members before place i haven't P
  abbrev pub NoneBefore : List A → ℕ → Type 0
  NoneBefore xs i = All (λ y. ¬ (P y)) (map f (take i xs))

  -- some image has P
  abbrev pub SomeHas : List A → Type 0
  SomeHas xs = (y : B) × Contains (map f xs) y × P y

  -- nor has that of the member at place i, so none before place i + 1 has
  none_more : (xs : List A) (i : ℕ) (x : A) → i < length xs → x ≡ get_or xs i x → NoneBefore xs i → ¬ (P (f x)) → NoneBefore xs (i + 1)
  none_more xs i x below is none fails =
      let next : take (i + 1) xs ≡ take i xs ++ x ∷ [] = take_more xs i x below ∙ ap (λ y. take i xs ++ y ∷ []) (sym is) in
      let both : map f (take (i + 1) xs) ≡ map f (take i xs) ++ f x ∷ [] = ap (map f) next ∙ map-append f (take i xs) (x ∷ []) in
      subst (All (λ y. ¬ (P y))) (sym both) (All-push (λ y. ¬ (P y)) (map f (take i xs)) (f x) none fails)

  -- no image of all members has P
  none_has : (xs : List A) (i : ℕ) → length xs ≤ i → NoneBefore xs i → ¬ (SomeHas xs)
  none_has xs i past none some =
      let all : All (λ y. ¬ (P y)) (map f xs) = subst (λ (ys : List A). All (λ y. ¬ (P y)) (map f ys)) (take_all i xs past) none in
      All-contains (λ y. ¬ (P y)) (map f xs) some.0 all some.1 some.2

module _ {X : Type 0} (token : X → ℕ) (g : Grammar) (table : Table) (lexemes : List X) {S A : Type 0} (index : S → ℕ) (k : ℕ) (st : List ℕ) (i : ℕ)
    (answer : List (Vec (RepairStep S) A)) where
  -- the sequence works from the stack
  abbrev pub WorksHere : List PlainStep → Type 0
  WorksHere = Works token g table lexemes k st i

  abbrev pub plain_of : Vec (RepairStep S) A → List PlainStep
  plain_of v = plain_steps index v.items

  -- the sequence at place n was tested and doesn't work, like those before it
  pub none_works : (n : ℕ) (x : Vec (RepairStep S) A) (steps : List (RepairStep S)) (from : List ℕ) (works : Bool)
      → n < length answer → x ≡ get_or answer n x → from ≡ st → steps ≡ x.items
      → IsTrue works ↔ Works token g table lexemes k from i (plain_steps index steps) → works ≡ false
      → NoneBefore plain_of WorksHere answer n → NoneBefore plain_of WorksHere answer (n + 1)
  none_works n x steps from works below is same items tested e none =
      let fails : ¬ (WorksHere (plain_of x)) = λ there.
      let here = subst (λ (l : List ℕ). Works token g table lexemes k l i (plain_steps index x.items)) (sym same) there in
      let yes = tested.1 (subst (λ (l : List (RepairStep S)). Works token g table lexemes k from i (plain_steps index l)) (sym items) here) in
      let differ : IsTrue false = subst (λ (b : Bool). IsTrue b) e yes in cc in
      none_more plain_of WorksHere answer n x below is none fails

  -- so none of all works
  pub none_of_all : (n : ℕ) → length answer ≤ n → NoneBefore plain_of WorksHere answer n → ¬ (SomeHas plain_of WorksHere answer)
  none_of_all n past none = none_has plain_of WorksHere answer n past none

-- the sequence at place n was tested after those before it, from the borrowed stack
pub tested_one_more : (g : Grammar) (table : Table) {S A : Type 0} (index : S → ℕ) (cap k : ℕ) (start old new : Overlaid) (answer : List (Vec (RepairStep S) A)) (n : ℕ)
    (x : Vec (RepairStep S) A) (steps : List (RepairStep S)) → n < length answer → x ≡ get_or answer n x → steps ≡ x.items
    → IsMovedWithin overlaid (λ old p r n new. OverlayReduces old n new) OverlayShifts g table cap (length steps + k) (at_base old) new
    → old.base ≡ start.base
    → AreTestsWithin g table (most_listed cap (length start.base) k (plain_sequences index (take n answer))) start old
    → AreTestsWithin g table (most_listed cap (length start.base) k (plain_sequences index (take (n + 1) answer))) start new
tested_one_more g table {S} {A} index cap k start old new answer n x steps below is items here base before =
    let next : take (n + 1) answer ≡ take n answer ++ x ∷ [] = take_more answer n x below ∙ ap (λ y. take n answer ++ y ∷ []) (sym is) in
    subst (λ (ys : List (Vec (RepairStep S) A)). AreTestsWithin g table (most_listed cap (length start.base) k (plain_sequences index ys)) start new) (sym next)
    (tested_more g table cap index k start old new (take n answer) x steps items here base before)

-- the first n sequences cost no more than all
costs_of_some : {S A : Type 0} (index : S → ℕ) (cap height k : ℕ) (answer : List (Vec (RepairStep S) A)) (n : ℕ)
    → most_listed cap height k (plain_sequences index (take n answer)) ≤ most_listed cap height k (plain_sequences index answer)
costs_of_some {S} {A} index cap height k answer n =
    let most = λ (s : List PlainStep). most_tested cap height (length s) k in
    let plain_of = λ (v : Vec (RepairStep S) A). plain_steps index v.items in
    let both = ap (λ ys. sum_by most ys) (map-append plain_of (take n answer) (drop n answer)) ∙ sum_by-append most (plain_sequences index (take n answer)) (plain_sequences index (drop n answer)) in
    let parts : most_listed cap height k (plain_sequences index (take n answer ++ drop n answer))
    ≡ most_listed cap height k (plain_sequences index (take n answer)) + most_listed cap height k (plain_sequences index (drop n answer)) = both in
    subst (λ (ys : List (Vec (RepairStep S) A)). most_listed cap height k (plain_sequences index (take n answer)) ≤ most_listed cap height k (plain_sequences index ys))
    (take-append-drop n answer) (omega (arith, parts))

-- so their tests are within what all may cost
pub tested_of_all : (g : Grammar) (table : Table) {S A : Type 0} (index : S → ℕ) (cap height k : ℕ) (answer : List (Vec (RepairStep S) A)) (n : ℕ) (old new : Overlaid)
    → AreTestsWithin g table (most_listed cap height k (plain_sequences index (take n answer))) old new
    → AreTestsWithin g table (most_listed cap height k (plain_sequences index answer)) old new
tested_of_all g table index cap height k answer n old new tests = record {
  count = tests.count;
  tests = tests.tests;
  cost = omega (arith, tests.cost, costs_of_some index cap height k answer n);
}

-- the first recoverer's answer was tested, and none of it works; so an answer of the second one is one of the two
pub asks_second : {X : Type 0} (token : X → ℕ) (first second : Asked X → List (List PlainStep) → Type 0) (at : Asked X) (tried answer : List (List PlainStep)) (works : Bool)
    → first at tried → IsTrue works ↔ SomeWorks token at tried → works ≡ false → second at answer → FirstOrSecond token first second at answer
asks_second token first second at tried answer works may tested e allowed =
    let fails : ¬ (SomeWorks token at tried) = λ some. let differ : IsTrue false = subst (λ (b : Bool). IsTrue b) e (tested.1 some) in cc in
    inr ((tried, may, fails), allowed)

module _ {X : Type 0} (token : X → ℕ) (first second : Asked X → List (List PlainStep) → Type 0) (d : Checked) where
  -- if the second always repairs, so does the first or the second
  pub repairs_by_second : AlwaysRepairs token second d → AlwaysRepairs token (FirstOrSecond token first second) d
  repairs_by_second always at stop same answer (inl (allowed, works)) = works
  repairs_by_second always at stop same answer (inr (fails, allowed)) = always at stop same answer allowed

  -- and so it does if the first always repairs
  pub repairs_by_first : AlwaysRepairs token first d → AlwaysRepairs token (FirstOrSecond token first second) d
  repairs_by_first always at stop same answer (inl (allowed, works)) = works
  repairs_by_first always at stop same answer (inr ((tried, may, fails), allowed)) = absurd (fails (always at stop same tried may))
