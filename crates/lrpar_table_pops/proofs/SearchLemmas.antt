-- The stacks of a search, as others are added, and why the search shows that each stack of the table can be completed: from the bottom of a
-- stack up, some stack of the search has exits that are good over the states below; and the top can be left by one of them.
use Rattle.std.proofs.Common.{◌≡◌, ◌<◌, ◌≤◌, ◌+◌, ◌⊎◌, ◌∙◌, inl, inr, refl, sym, ap, subst, arith, ℕ, zero, suc, Bool, List, [], ◌∷◌, ◌++◌, Some, add-one, get_or, length, reverse, slice_get, take}
use Rattle.std.specs.Prelude.{Contains, Err, Ok, OnOk, Result}
use Rattle.std.proofs.lemmas.Bool.{cases_lt}
use Rattle.std.proofs.lemmas.List.{append_assoc, map-append, reverse-append, take_all}
use Rattle.std.proofs.lemmas.Option.{same_Some, slice_get-get_or, slice_get_within}
use Rattle.lrpar_grammar.specs.Grammar.{Grammar}
use Rattle.lrpar_grammar_places.specs.declared.span.StIdx.{StIdx}
use Rattle.lrpar_table_rows.specs.Table.{IsClosed, Table, states_len}
use Rattle.lrpar_table_check.specs.Checked.{Checked, IsChecked}
use Rattle.lrpar_table_stacks.specs.ReductionStep.{FitsGrammar}
use Rattle.lrpar_table_stacks.specs.Stack.{AreJoined, HasGotoTo, HasShiftTo, IsJoined, IsStack, states_of}
use Rattle.lrpar_table_pops.specs.Completable.{AreAllCompletable}
use Rattle.lrpar_table_pops.specs.Exits.{HasExit}
use Rattle.lrpar_table_rows.specs.Graph.{Graph}
use Rattle.lrpar_table_pops.specs.AllGood.{LeadToAll}
use Rattle.lrpar_table_pops.specs.Good.{AreGoodOver, LeadToExits, LeadToReductions}
use Rattle.lrpar_table_pops.specs.Pops.{Control, Pops, PopsAll, Reading}
use Rattle.lrpar_table_pops.specs.Searched.{AreAllReductionsAt, AreDone, AreReductionsAt, AreStacks, CompletesAt, IsCovered, IsGoneOnAt, IsJoinedAt, IsMet, IsMetAt, IsOnEarlier, IsStackAt, KeepsStacks}
use Rattle.lrpar_table_pops.specs.declared.exits.Exit.{Exit}
use Rattle.lrpar_table_pops.specs.declared.searched.Stack.{Stack}
use Rattle.lrpar_table_pops.proofs.ExitLemmas.{before_more}
use Rattle.lrpar_table_pops.proofs.PopLemmas.{pops_are_completions}

-- an element that was read is at its place
pub at_read : {X : Type 0} (xs : List X) (i : ℕ) (x : X) → i < length xs → x ≡ get_or xs i x → slice_get xs i ≡ Some x
at_read xs i x low is = slice_get-get_or xs i x low ∙ ap Some (sym is)

-- there is one element at a place
pub at_same : {X : Type 0} (xs : List X) (i : ℕ) (x y : X) → slice_get xs i ≡ Some x → slice_get xs i ≡ Some y → x ≡ y
at_same xs i x y here there = same_Some x y (sym here ∙ there)

-- the elements of a list with one more
get_front : {X : Type 0} (xs : List X) (x : X) (i : ℕ) → i < length xs → slice_get (xs ++ x ∷ []) i ≡ slice_get xs i
get_front [] x i low = absurd (omega (arith, low))
get_front (y ∷ xs) x zero low = refl
get_front (y ∷ xs) x (suc i) low = get_front xs x i (omega (arith, low))

pub get_last : {X : Type 0} (xs : List X) (x : X) → slice_get (xs ++ x ∷ []) (length xs) ≡ Some x
get_last [] x = refl
get_last (y ∷ xs) x = get_last xs x

pub get_pushed : {X : Type 0} (xs : List X) (x : X) (i : ℕ) (y : X) → slice_get (xs ++ x ∷ []) i ≡ Some y → (slice_get xs i ≡ Some y) ⊎ ((i ≡ length xs) × (y ≡ x))
get_pushed {X} [] x zero y is = let same : y ≡ x = cc in inr (refl, same)
get_pushed [] x (suc i) y is = absurd (let none : ⊥ = cc in none)
get_pushed (z ∷ xs) x zero y is = inl is
get_pushed (z ∷ xs) x (suc i) y is =
    elim (get_pushed xs x i y is) as (λ _. (slice_get xs i ≡ Some y) ⊎ ((suc i ≡ suc (length xs)) × (y ≡ x))) [
      | inl was ↦ inl was
      | inr new ↦ inr (ap suc new.0, new.1)
    ]

-- stacks that are kept
module _ {S : Type 0} where
  pub keeps_all : (stacks : List (Stack S)) → KeepsStacks stacks stacks
  keeps_all stacks = record { more = omega arith; same = λ place low. refl }

  pub keeps_then : (first now next : List (Stack S)) → KeepsStacks first now → KeepsStacks now next → KeepsStacks first next
  keeps_then first now next one two = record {
    more = let a = one.more in let b = two.more in omega (arith, a, b);
    same = λ place low. let a = one.more in two.same place (omega (arith, a, low)) ∙ one.same place low;
  }

  pub keeps_pushed : (stacks : List (Stack S)) (stack : Stack S) → KeepsStacks stacks (stacks ++ stack ∷ [])
  keeps_pushed stacks stack = record {
    more = one_more stacks;
    same = λ place low. get_front stacks stack place low;
  }
    where
      one_more : (xs : List (Stack S)) → length xs ≤ length (xs ++ stack ∷ [])
      one_more [] = omega arith
      one_more (x ∷ xs) = let more = one_more xs in omega (arith, more)

  module _ (old new : List (Stack S)) (keeps : KeepsStacks old new) where
    pub at_kept : (place : ℕ) (stack : Stack S) → IsStackAt old place stack → IsStackAt new place stack
    at_kept place stack at = keeps.same place (slice_get_within old place stack at) ∙ at

    pub at_before : (place : ℕ) (stack : Stack S) → place < length old → IsStackAt new place stack → IsStackAt old place stack
    at_before place stack low at = sym (keeps.same place low) ∙ at

module _ {S : Type 0} (index : S → ℕ) (g : Grammar) (table : Table) where
  -- what was met stays met
  pub met_kept : (old new : List (Stack S)) → KeepsStacks old new → (place next : ℕ) → place < length old → IsMetAt index g table old place next
      → IsMetAt index g table new place next
  met_kept old new keeps place next low met stack at =
      let was = met stack (at_before old new keeps place stack low at) in
      (was.0, was.1, at_kept old new keeps was.0 was.1 was.2, was.3, was.4)

  pub gone_on_kept : (old new : List (Stack S)) → KeepsStacks old new → (place : ℕ) → place < length old → IsGoneOnAt index g table old place
      → IsGoneOnAt index g table new place
  gone_on_kept old new keeps place low gone stack at next joined =
      let was = gone stack (at_before old new keeps place stack low at) next joined in
      (was.0, was.1, at_kept old new keeps was.0 was.1 was.2, was.3, was.4)

  -- a known stack will do
  pub covered_met : (stacks : List (Stack S)) (stack : Stack S) (next : ℕ) (good : List Exit) → IsCovered index stacks next good
      → LeadToExits g table (index stack.top.0) stack.good good → IsMet index g table stacks stack next
  covered_met stacks stack next good known leads =
      (known.0, known.1, known.2, known.3, λ below over r h. leads below over r (known.4 r h))

  -- a stack that was added is met
  pub pushed_met : (stacks : List (Stack S)) (stack new : Stack S) → LeadToExits g table (index stack.top.0) stack.good new.good
      → IsMet index g table (stacks ++ new ∷ []) stack (index new.top.0)
  pushed_met stacks stack new leads = (length stacks, new, get_last stacks new, refl, leads)

  -- one stack more
  pub stacks_pushed : (stacks : List (Stack S)) (new : Stack S) → AreStacks index g table stacks → new.below < length stacks
      → IsJoinedAt index table stacks new.below (index new.top.0) → index new.top.0 < states_len table → AreStacks index g table (stacks ++ new ∷ [])
  stacks_pushed stacks new are low joined within =
      let keeps = keeps_pushed stacks new in
      let first = are.start in
      record {
        start = (first.0, at_kept stacks (stacks ++ new ∷ []) keeps 0 first.0 first.1, first.2, first.3);
        on = λ place stack some at.
            elim (get_pushed stacks new place stack at) as (λ _. IsOnEarlier index table (stacks ++ new ∷ []) place stack) [
              | inl was ↦
                  let on = are.on place stack some was in
                  (on.0, on.1, at_kept stacks (stacks ++ new ∷ []) keeps stack.below on.0 on.2, on.3)
              | inr here ↦
                  let under : Stack S = get_or stacks new.below new in
                  let there : IsStackAt stacks new.below under = slice_get-get_or stacks new.below new low in
                  let e = here.0 in
                  subst (λ (x : Stack S). IsOnEarlier index table (stacks ++ new ∷ []) place x) (sym here.1)
                  (under, omega (arith, low, e), at_kept stacks (stacks ++ new ∷ []) keeps new.below under there, joined under there)
            ];
        within = λ place stack at.
            elim (get_pushed stacks new place stack at) as (λ _. index stack.top.0 < states_len table) [
              | inl was ↦ are.within place stack was
              | inr here ↦ subst (λ (x : Stack S). index x.top.0 < states_len table) (sym here.1) within
            ];
      }

  -- the start state alone
  pub stacks_start : (new : Stack S) → index new.top.0 ≡ table.start → table.start < states_len table → AreGoodOver g table [] new.good
      → AreStacks index g table (new ∷ [])
  stacks_start new is within over = record {
    start = (new, refl, is, over);
    on = λ place stack some at. absurd (no_more place stack some at);
    within = λ place stack at.
        elim (get_pushed [] new place stack at) as (λ _. index stack.top.0 < states_len table) [
          | inl was ↦ let none : ⊥ = cc in absurd none
          | inr here ↦ subst (λ (x : Stack S). index x.top.0 < states_len table) (sym here.1) (omega (arith, is, within))
        ];
  }
    where
      no_more : (place : ℕ) (stack : Stack S) → 0 < place → IsStackAt (new ∷ []) place stack → ⊥
      no_more zero stack some at = omega (arith, some)
      no_more (suc place) stack some at = let none : ⊥ = cc in none

  -- one place more
  pub done_more : (exits : ℕ → List Exit) (old new : List (Stack S)) (done : ℕ) → KeepsStacks old new → done < length old → AreDone index g table exits old done
      → CompletesAt index exits old done → IsGoneOnAt index g table new done → AreDone index g table exits new (done + 1)
  done_more exits old new done keeps low are completes gone = record {
    completes = λ place under. elim (last place under) as (λ _. CompletesAt index exits new place) [
      | inl before ↦ λ stack at. are.completes place before stack (at_before old new keeps place stack (omega (arith, before, low)) at)
      | inr here ↦ λ stack at.
          completes stack (at_before old new keeps done stack low (subst (λ (n : ℕ). IsStackAt new n stack) here at))
    ];
    gone_on = λ place under. elim (last place under) as (λ _. IsGoneOnAt index g table new place) [
      | inl before ↦ gone_on_kept old new keeps place (omega (arith, before, low)) (are.gone_on place before)
      | inr here ↦ subst (IsGoneOnAt index g table new) (sym here) gone
    ];
  }
    where
      last : (place : ℕ) → place < done + 1 → (place < done) ⊎ (place ≡ done)
      last place under =
          elim (cases_lt place done) as (λ _. (place < done) ⊎ (place ≡ done)) [ inl less ↦ inl less | inr past ↦ inr (omega (arith, past, under)) ]

  -- none is done at first
  pub done_none : (exits : ℕ → List Exit) (stacks : List (Stack S)) → AreDone index g table exits stacks 0
  done_none exits stacks = record {
    completes = λ place under. absurd (omega (arith, under));
    gone_on = λ place under. absurd (omega (arith, under));
  }

  module _ (exits : ℕ → List Exit) (stacks : List (Stack S)) (leave : (s : ℕ) (r : Control) → HasExit (exits s) r → (t : ℕ) × Pops g table (Reading t) s r) (are : AreStacks index g table stacks) (done : AreDone index g table exits stacks (length stacks)) where
    -- what lies on top of a stack of the search
    on_top : (st : List ℕ) (place : ℕ) (stack : Stack S) → IsStackAt stacks place stack → (below : List ℕ) → AreGoodOver g table below stack.good
        → AreJoined table (index stack.top.0) st → (t : ℕ) × PopsAll g table (Reading t) (reverse st ++ index stack.top.0 ∷ below)
    on_top [] place stack at below over joined =
        let common = done.completes place (slice_get_within stacks place stack at) stack at in
        let leaves = leave (index stack.top.0) common.0 common.1 in
        (leaves.0, (common.0, leaves.1, over common.0 common.2))
    on_top (next ∷ st) place stack at below over joined =
        let s = index stack.top.0 in
        let met = done.gone_on place (slice_get_within stacks place stack at) stack at next joined.0 in
        let on : AreJoined table (index met.1.top.0) st = subst (λ (n : ℕ). AreJoined table n st) (sym met.3) joined.1 in
        let rest = on_top st met.0 met.1 met.2 (s ∷ below) (met.4 below over) on in
        let back : reverse st ++ index met.1.top.0 ∷ s ∷ below ≡ reverse (next ∷ st) ++ s ∷ below =
        ap (λ (n : ℕ). reverse st ++ n ∷ s ∷ below) met.3
        ∙ sym (append_assoc (reverse st) (next ∷ []) (s ∷ below)) ∙ ap (λ (l : List ℕ). l ++ s ∷ below) (sym (reverse-append (next ∷ []) st)) in
        (rest.0, subst (PopsAll g table (Reading rest.0)) back rest.1)

    -- so each stack of the table can be completed
    pub all_completable : FitsGrammar g table → AreAllCompletable g table
    all_completable fits [] is = absurd is
    all_completable fits (s ∷ st) is =
        let first = are.start in
        let same : index first.0.top.0 ≡ s = first.2 ∙ sym is.0 in
        let on = on_top st 0 first.0 first.1 [] first.3 (subst (λ (n : ℕ). AreJoined table n st) (sym same) is.1) in
        let back : reverse st ++ index first.0.top.0 ∷ [] ≡ reverse (s ∷ st) =
        ap (λ (n : ℕ). reverse st ++ n ∷ []) same ∙ sym (reverse-append (s ∷ []) st) in
        (pops_are_completions g table (s ∷ st) fits (omega arith)).1 (on.0, subst (PopsAll g table (Reading on.0)) back on.1)

-- these states, top first, lie on top of the stack at the place
abbrev pub IsListedTo : {S : Type 0} → (S → ℕ) → Table → List (Stack S) → ℕ → List (StIdx S) → Type 0
IsListedTo {S} index table stacks place states =
    (stack : Stack S) → IsStackAt stacks place stack → AreJoined table (index stack.top.0) (reverse (states_of index states))

-- a state more
states_more : {S : Type 0} (index : S → ℕ) (states : List (StIdx S)) (x : StIdx S)
    → reverse (states_of index (states ++ x ∷ [])) ≡ index x.0 ∷ reverse (states_of index states)
states_more {S} index states x =
    ap reverse (map-append (λ (s : StIdx S). index s.0) states (x ∷ [])) ∙ reverse-append (states_of index states) (index x.0 ∷ [])

module _ {S : Type 0} (index : S → ℕ) (g : Grammar) (table : Table) (stacks : List (Stack S)) (are : AreStacks index g table stacks) where
  -- the next one below
  pub listed_more : (place : ℕ) (stack : Stack S) (states : List (StIdx S)) → 0 < place → IsStackAt stacks place stack → IsListedTo index table stacks place states
      → IsListedTo index table stacks stack.below (states ++ stack.top ∷ [])
  listed_more place stack states some at listed under there =
      let on = are.on place stack some at in
      let joined : IsJoined table (index under.top.0) (index stack.top.0) =
      subst (λ (x : Stack S). IsJoined table (index x.top.0) (index stack.top.0)) (at_same stacks stack.below on.0 under on.2 there) on.3 in
      subst (AreJoined table (index under.top.0)) (sym (states_more index states stack.top)) (joined, listed stack at)

  -- the bottom is the start state
  pub listed_all : (stack : Stack S) (states turned : List (StIdx S)) → IsStackAt stacks 0 stack → IsListedTo index table stacks 0 states
      → turned ≡ reverse (states ++ stack.top ∷ []) → IsStack table (states_of index turned)
  listed_all stack states turned at listed is =
      let first = are.start in
      let start : index stack.top.0 ≡ table.start = ap (λ (x : Stack S). index x.top.0) (at_same stacks 0 stack first.0 at first.1) ∙ first.2 in
      let whole : turned ≡ stack.top ∷ reverse states = is ∙ reverse-append states (stack.top ∷ []) in
      let turned_is : states_of index turned ≡ index stack.top.0 ∷ reverse (states_of index states) =
      ap (states_of index) whole ∙ ap (λ (l : List ℕ). index stack.top.0 ∷ l) (map_back states) in
      subst (IsStack table) (sym turned_is) (start, listed stack at)
    where
      map_back : (xs : List (StIdx S)) → states_of index (reverse xs) ≡ reverse (states_of index xs)
      map_back [] = refl
      map_back (x ∷ xs) =
          ap (states_of index) (reverse-append (x ∷ []) xs) ∙ map-append (λ (s : StIdx S). index s.0) (reverse xs) (x ∷ [])
          ∙ ap (λ (l : List ℕ). l ++ index x.0 ∷ []) (map_back xs) ∙ sym (reverse-append (index x.0 ∷ []) (states_of index xs))

-- each state is met to which a shift leads from the top of the stack at the place
abbrev pub AreShiftsMet : {S : Type 0} → (S → ℕ) → Grammar → Table → List (Stack S) → ℕ → Type 0
AreShiftsMet {S} index g table stacks place =
    (stack : Stack S) → IsStackAt stacks place stack → (next : ℕ) → HasShiftTo table (index stack.top.0) next → IsMet index g table stacks stack next

-- the stack at a place, as others are added
module _ {S : Type 0} (index : S → ℕ) (g : Grammar) (table : Table) (old now : List (Stack S)) (keeps : KeepsStacks old now) (place : ℕ) (under : Stack S)
    (at : IsStackAt old place under) where
  is_under : (stack : Stack S) → IsStackAt now place stack → under ≡ stack
  is_under stack there =
      at_same old place under stack at (at_before old now keeps place stack (slice_get_within old place under at) there)

  pub reductions_at : (reduced : List (List Bool)) → LeadToReductions g table (index under.top.0) under.good reduced → AreReductionsAt index g table now place reduced
  reductions_at reduced leads stack there = subst (λ (x : Stack S). LeadToReductions g table (index x.top.0) x.good reduced) (is_under stack there) leads

  pub all_reductions_at : (graph : Graph) (reduced : List (List Bool)) → LeadToAll g graph table (index under.top.0) under.good reduced
      → AreAllReductionsAt index g graph table now place reduced
  all_reductions_at graph reduced leads stack there =
      subst (λ (x : Stack S). LeadToAll g graph table (index x.top.0) x.good reduced) (is_under stack there) leads

  pub joined_at : (next : ℕ) → IsJoined table (index under.top.0) next → IsJoinedAt index table now place next
  joined_at next joined stack there = subst (λ (x : Stack S). IsJoined table (index x.top.0) next) (is_under stack there) joined

  pub shifts_met : ((next : ℕ) → HasShiftTo table (index under.top.0) next → IsMetAt index g table now place next) → AreShiftsMet index g table now place
  shifts_met met stack there next shift =
      met next (subst (λ (x : Stack S). HasShiftTo table (index x.top.0) next) (sym (is_under stack there)) shift) stack there

  pub all_met : AreShiftsMet index g table now place → ((next : ℕ) → HasGotoTo table (index under.top.0) next → IsMetAt index g table now place next)
      → IsGoneOnAt index g table now place
  all_met shifts gotos stack there next joined =
      elim joined as (λ _. IsMet index g table now stack next) [
        | inl shift ↦ shifts stack there next shift
        | inr goto ↦ gotos next (subst (λ (x : Stack S). HasGotoTo table (index x.top.0) next) (sym (is_under stack there)) goto) stack there
      ]

pub shifts_kept : {S : Type 0} (index : S → ℕ) (g : Grammar) (table : Table) (old new : List (Stack S)) → KeepsStacks old new → (place : ℕ) → place < length old
    → AreShiftsMet index g table old place → AreShiftsMet index g table new place
shifts_kept index g table old new keeps place low met stack at next shift =
    let was = met stack (at_before old new keeps place stack low at) next shift in
    (was.0, was.1, at_kept old new keeps was.0 was.1 was.2, was.3, was.4)

-- shifts and gotos lead to states of the table
pub joined_within : (table : Table) (s next : ℕ) → IsClosed table → IsJoined table s next → next < states_len table
joined_within table s next closed joined =
    elim joined as (λ _. next < states_len table) [
      | inl shift ↦ closed.shifts_within s shift.0 next shift.2
      | inr goto ↦ closed.gotos_within s goto.0 next goto.2
    ]

-- nothing is in no list
pub contains_none : {X : Type 0} (x : X) → ¬ (Contains [] x)
contains_none x (k, low, at) = omega (arith, low)

-- a fact of the elements before a place, and of the one there
pub each_more : {X : Type 0} (P : X → Type 0) (xs : List X) (i : ℕ) (x : X) → i < length xs → x ≡ get_or xs i x → ((y : X) → Contains (take i xs) y → P y) → P x
    → (y : X) → Contains (take (i + 1) xs) y → P y
each_more P xs i x low is before here y there =
    let seen : Contains (take (suc i) xs) y = rw (← add-one) there in
    elim (before_more xs i x y (at_read xs i x low is) seen) as (λ _. P y) [ inl was ↦ before y was | inr same ↦ subst P (sym same) here ]

-- past the end it is one of all elements
pub each_all : {X : Type 0} (P : X → Type 0) (xs : List X) (i : ℕ) → length xs ≤ i → ((y : X) → Contains (take i xs) y → P y) → (y : X) → Contains xs y → P y
each_all {X} P xs i end before y there = before y (subst (λ (l : List X). Contains l y) (sym (take_all i xs end)) there)

-- all are done
pub done_all : {S : Type 0} (index : S → ℕ) (g : Grammar) (table : Table) (exits : ℕ → List Exit) (stacks : List (Stack S)) (done : ℕ) → length stacks ≤ done
    → AreDone index g table exits stacks done → AreDone index g table exits stacks (length stacks)
done_all index g table exits stacks done end are = record {
  completes = λ place under. are.completes place (omega (arith, under, end));
  gone_on = λ place under. are.gone_on place (omega (arith, under, end));
}

-- a checked table fits its grammar
pub checked_fits : (d : Checked) → IsChecked d → FitsGrammar d.grammar d.table
checked_fits d is = record { reduces = is.safe.shape.reduces; rules = is.safe.shape.rules }

-- two facts of a value, if there is one
pub on_ok_both : {T E A B C : Type 0} (r : Result T E) → (A → B → C) → OnOk r A → OnOk r B → OnOk r C
on_ok_both (Ok x) f a b = f a b
on_ok_both (Err e) f a b = tt
