-- The conflicts that are listed, state by state and token by token, are those of the sets; and they are in order.
use Rattle.std.proofs.Common.{◌≡◌, ◌<◌, ◌+◌, ◌↔◌, ◌⊎◌, ◌∙◌, ◌∷◌, refl, sym, ap, subst, inl, inr, arith, ℕ, Bool, true, List, [], All, Option, Some, None, cond, drop, length, map, nat_eq}
use Rattle.std.specs.List.{Contains, range_with_len}
use Rattle.std.specs.List.Sorted.{IsStrictlySortedBy}
use Rattle.std.specs.Map.{lookup}
use Rattle.std.specs.Option.{is_none, option_map}
use Rattle.std.specs.Ordering.{nat_cmp, ordering_then}
use Rattle.std.specs.declared.cmp.Ordering.{Ordering}
use Rattle.std.specs.declared.cmp.Ordering.TheVariants.{Less, Equal, Greater}
use Rattle.std.proofs.lemmas.Bool.{cond-false, cond-true, eq-eqb, le-ltb, lt-ltb}
use Rattle.lrpar_grammar.specs.Grammar.{Grammar, GrammarSymbol, Terminal, tokens_len}
use Rattle.lrpar_table_precedence.specs.Precedence.{PrecedenceLists, resolution_of}
use Rattle.lrpar_table_precedence.specs.declared.precedence.Resolution.{Resolution}
use Rattle.lrpar_table_rows.specs.Graph.{Graph, ItemOf, graph_len}
use Rattle.lrpar_table_rows.specs.Table.{ConflictLists, ReduceReduce, ResolvedOf, ShiftReduce}
use Rattle.lrpar_table_rows.proofs.ItemLemmas.{Contains-image, Contains-preimage}
use Rattle.lrpar_table_build.specs.BuilderLaws.{AreConflictsBy, AreResolvedBy, lists_in}
use Rattle.lrpar_table_build.specs.Built.{AreInOrder, AreResolvedInOrder, reduce_reduce_cmp, shift_reduce_cmp}
use Rattle.lrpar_table_items.specs.Canonical.{AreSame, IsReduceConflict, IsShiftConflict, IsUnresolvedConflict, HasFirstReduce, sets_of}
use Rattle.lrpar_table_items.specs.Cores.{CoreSet, IsAmong, IsCoreOf}
use Rattle.lrpar_table_items.specs.StateRows.{reduce_conflicts_below, shift_conflicts_below, unless_empty}
use Rattle.lrpar_table_items.specs.States.{StateOf, sets_at, state_at}
use Rattle.lrpar_table_items.specs.Resolution.{AscendFrom, reduce_conflicts, reduce_conflicts_at, reductions, resolution_with, resolutions, shift_conflicts, shift_conflicts_at, unresolved}
use Rattle.lrpar_table_build.proofs.MemberLemmas.{filter_has, filter_member, image_has, image_member, joined_has, joined_member, member_cases, member_later, member_none, range_has, range_member, sorted_filter, sorted_first, sorted_images, sorted_joined, sorted_none}
use Rattle.lrpar_table_build.proofs.ReductionLemmas.{first_alone, first_is, first_least, none_is, reductions_ascend, candidate_is}
use Rattle.lrpar_table_build.proofs.SetLemmas.{before_other, before_same}
use Rattle.lrpar_table_build.proofs.StepLemmas.{AreStatesAlong, before_step, step_before}

-- numbers in order
less_is : (a b : ℕ) → a < b → nat_cmp a b ≡ Less
less_is a b less = cond-true _ Less (cond (nat_eq a b) Equal Greater) (lt-ltb a b less)

same_is : (a b : ℕ) → a ≡ b → nat_cmp a b ≡ Equal
same_is a b same =
    cond-false _ Less (cond (nat_eq a b) Equal Greater) (le-ltb a b (omega (arith, same))) ∙ cond-true _ Equal Greater (eq-eqb a b same)

-- reduce/reduce conflicts in order
by_state : (x y : ReduceReduce) → x.state < y.state → reduce_reduce_cmp x y ≡ Less
by_state x y less =
    ap (λ (o : Ordering). ordering_then (ordering_then o (nat_cmp x.token y.token)) (nat_cmp x.second y.second)) (less_is x.state y.state less)

by_token : (x y : ReduceReduce) → x.state ≡ y.state → x.token < y.token → reduce_reduce_cmp x y ≡ Less
by_token x y state less =
    ap (λ (o : Ordering). ordering_then (ordering_then o (nat_cmp x.token y.token)) (nat_cmp x.second y.second)) (same_is x.state y.state state)
    ∙ ap (λ (o : Ordering). ordering_then o (nat_cmp x.second y.second)) (less_is x.token y.token less)

by_second : (x y : ReduceReduce) → x.state ≡ y.state → x.token ≡ y.token → x.second < y.second → reduce_reduce_cmp x y ≡ Less
by_second x y state token less =
    ap (λ (o : Ordering). ordering_then (ordering_then o (nat_cmp x.token y.token)) (nat_cmp x.second y.second)) (same_is x.state y.state state)
    ∙ ap (λ (o : Ordering). ordering_then o (nat_cmp x.second y.second)) (same_is x.token y.token token) ∙ less_is x.second y.second less

-- shift/reduce conflicts in order
shift_by_state : (x y : ShiftReduce) → x.state < y.state → shift_reduce_cmp x y ≡ Less
shift_by_state x y less = ap (λ (o : Ordering). ordering_then o (nat_cmp x.token y.token)) (less_is x.state y.state less)

shift_by_token : (x y : ShiftReduce) → x.state ≡ y.state → x.token < y.token → shift_reduce_cmp x y ≡ Less
shift_by_token x y state less =
    ap (λ (o : Ordering). ordering_then o (nat_cmp x.token y.token)) (same_is x.state y.state state) ∙ less_is x.token y.token less

-- a reduce/reduce conflict among these productions: its first production is the first of them, and its second is a later one
abbrev IsOfReductions : List ℕ → ReduceReduce → Type 0
IsOfReductions prods x = (later : List ℕ) × (prods ≡ x.first ∷ later) × Contains later x.second

-- a shift/reduce conflict with the first of these productions
abbrev IsOfShift : Option ℕ → List ℕ → ShiftReduce → Type 0
IsOfShift shift prods x = ((next : ℕ) × (shift ≡ Some next)) × ((later : List ℕ) × (prods ≡ x.prod ∷ later))

-- the second one is a later one
second_later : (p : ℕ) (later : List ℕ) (x : ReduceReduce) → IsOfReductions (p ∷ later) x → Contains later x.second
second_later p later x of =
    let same : later ≡ of.0 = ap (λ (ks : List ℕ). drop 1 ks) of.1 in subst (λ (ks : List ℕ). Contains ks x.second) (sym same) of.2

module _ (s t : ℕ) where
  -- the reduce/reduce conflicts at one token
  at_token : (prods : List ℕ) (x : ReduceReduce) → Contains (reduce_conflicts_at s t prods) x → (x.state ≡ s) × (x.token ≡ t) × IsOfReductions prods x
  at_token [] x h = absurd (member_none x h)
  at_token (p ∷ later) x h =
      let one = Contains-preimage (λ (q : ℕ). let made : ReduceReduce = record { token = t; first = p; second = q; state = s } in made) later x h in
      let first : p ≡ x.first = ap (λ (y : ReduceReduce). y.first) one.2 in
      let second : one.0 ≡ x.second = ap (λ (y : ReduceReduce). y.second) one.2 in (
        sym (ap (λ (y : ReduceReduce). y.state) one.2),
        sym (ap (λ (y : ReduceReduce). y.token) one.2),
        (later, ap (λ k. k ∷ later) first, subst (Contains later) second one.1),
      )

  token_has : (prods : List ℕ) (x : ReduceReduce) → x.state ≡ s → x.token ≡ t → IsOfReductions prods x → Contains (reduce_conflicts_at s t prods) x
  token_has prods x state token of =
      let made : ℕ → ReduceReduce = λ q. record { token = t; first = x.first; second = q; state = s } in
      let is : made x.second ≡ x =
      ap (λ (n : ℕ). let y : ReduceReduce = record { token = n; first = x.first; second = x.second; state = s } in y) (sym token)
      ∙ ap (λ (n : ℕ). let y : ReduceReduce = record { token = x.token; first = x.first; second = x.second; state = n } in y) (sym state) in
      subst (λ (ps : List ℕ). Contains (reduce_conflicts_at s t ps) x) (sym of.1) (subst (Contains (map made of.0)) is (Contains-image made of.0 x.second of.2))

  later_sorted : (a p : ℕ) (later : List ℕ) → AscendFrom a later → IsStrictlySortedBy reduce_reduce_cmp (reduce_conflicts_at s t (p ∷ later))
  later_sorted a p [] up = sorted_none reduce_reduce_cmp
  later_sorted a p (q ∷ later) up =
      let made : ℕ → ReduceReduce = λ r. record { token = t; first = p; second = r; state = s } in
      sorted_first reduce_reduce_cmp (made q) (map made later)
      (λ y h.
      let of = at_token (p ∷ later) y h in
      let above = first_least (q + 1) y.second later up.1 (second_later p later y of.2) in
      by_second (made q) y (sym of.0) (sym of.1) (omega (arith, above)))
      (later_sorted (q + 1) p later up.1)

  token_sorted : (prods : List ℕ) → AscendFrom 0 prods → IsStrictlySortedBy reduce_reduce_cmp (reduce_conflicts_at s t prods)
  token_sorted [] up = sorted_none reduce_reduce_cmp
  token_sorted (p ∷ later) up = later_sorted (p + 1) p later up.1

  -- the shift/reduce conflicts at one token
  shift_at_token : (shift : Option ℕ) (prods : List ℕ) (x : ShiftReduce) → Contains (shift_conflicts_at s t shift prods) x
      → (x.state ≡ s) × (x.token ≡ t) × IsOfShift shift prods x
  shift_at_token None prods x h = absurd (member_none x h)
  shift_at_token (Some next) [] x h = absurd (member_none x h)
  shift_at_token (Some next) (p ∷ later) x h =
      let made : ShiftReduce = record { token = t; prod = p; state = s } in
      elim (member_cases made [] x h) [
        | inl here ↦ (
          sym (ap (λ (y : ShiftReduce). y.state) here),
          sym (ap (λ (y : ShiftReduce). y.token) here),
          ((next, refl), (later, ap (λ k. k ∷ later) (ap (λ (y : ShiftReduce). y.prod) here))),
        )
        | inr none ↦ absurd (member_none x none)
      ]

  shift_token_has : (shift : Option ℕ) (prods : List ℕ) (x : ShiftReduce) → x.state ≡ s → x.token ≡ t → IsOfShift shift prods x
      → Contains (shift_conflicts_at s t shift prods) x
  shift_token_has shift prods x state token of =
      let made : ShiftReduce = record { token = t; prod = x.prod; state = s } in
      let is : made ≡ x =
      ap (λ (n : ℕ). let y : ShiftReduce = record { token = n; prod = x.prod; state = s } in y) (sym token)
      ∙ ap (λ (n : ℕ). let y : ShiftReduce = record { token = x.token; prod = x.prod; state = n } in y) (sym state) in
      subst (λ (o : Option ℕ). Contains (shift_conflicts_at s t o prods) x) (sym of.0.1)
      (subst (λ (ps : List ℕ). Contains (shift_conflicts_at s t (Some of.0.0) ps) x) (sym of.1.1) (0, omega arith, is))

  shift_token_sorted : (shift : Option ℕ) (prods : List ℕ) → IsStrictlySortedBy shift_reduce_cmp (shift_conflicts_at s t shift prods)
  shift_token_sorted None prods = sorted_none shift_reduce_cmp
  shift_token_sorted (Some next) [] = sorted_none shift_reduce_cmp
  shift_token_sorted (Some next) (p ∷ later) =
      let made : ShiftReduce = record { token = t; prod = p; state = s } in
      sorted_first shift_reduce_cmp made [] (λ y h. absurd (member_none y h)) (sorted_none shift_reduce_cmp)

module _ (g : Grammar) (cores : List CoreSet) (s : ℕ) where
  -- the conflicts of a state
  at_state : (x : ReduceReduce) → Contains (reduce_conflicts g cores s) x
      → (x.state ≡ s) × (x.token < tokens_len g) × IsOfReductions (reductions g cores x.token) x
  at_state x h =
      let one = joined_member (λ t. reduce_conflicts_at s t (reductions g cores t)) (range_with_len 0 (tokens_len g)) x h in
      let t = one.0 in
      let within = range_member 0 (tokens_len g) t one.1 in
      let of = at_token s t (reductions g cores t) x one.2 in
      let token = of.1 in
      (of.0, omega (arith, within, token), subst (λ n. IsOfReductions (reductions g cores n) x) (sym token) of.2)

  state_has : (x : ReduceReduce) → x.state ≡ s → x.token < tokens_len g → IsOfReductions (reductions g cores x.token) x → Contains (reduce_conflicts g cores s) x
  state_has x state within of =
      joined_has (λ t. reduce_conflicts_at s t (reductions g cores t)) (range_with_len 0 (tokens_len g)) x.token x
      (range_has 0 (tokens_len g) x.token (omega arith) (omega (arith, within))) (token_has s x.token (reductions g cores x.token) x state refl of)

  state_sorted : IsStrictlySortedBy reduce_reduce_cmp (reduce_conflicts g cores s)
  state_sorted =
      sorted_joined reduce_reduce_cmp (λ t. reduce_conflicts_at s t (reductions g cores t))
      (λ t. token_sorted s t (reductions g cores t) (reductions_ascend g cores t))
      (λ i j x y less one other.
      let left = at_token s i (reductions g cores i) x one in
      let right = at_token s j (reductions g cores j) y other in
      let here = left.1 in
      let there = right.1 in
      by_token x y (left.0 ∙ sym right.0) (omega (arith, less, here, there)))
      0 (tokens_len g)

  module _ (shifts : List (ℕ × ℕ)) where
    shift_at_state : (x : ShiftReduce) → Contains (shift_conflicts g cores shifts s) x
        → (x.state ≡ s) × (x.token < tokens_len g) × IsOfShift (lookup (nat_eq x.token) shifts) (reductions g cores x.token) x
    shift_at_state x h =
        let one = joined_member (λ t. shift_conflicts_at s t (lookup (nat_eq t) shifts) (reductions g cores t)) (range_with_len 0 (tokens_len g)) x h in
        let t = one.0 in
        let within = range_member 0 (tokens_len g) t one.1 in
        let of = shift_at_token s t (lookup (nat_eq t) shifts) (reductions g cores t) x one.2 in
        let token = of.1 in
        (of.0, omega (arith, within, token), subst (λ n. IsOfShift (lookup (nat_eq n) shifts) (reductions g cores n) x) (sym token) of.2)

    shift_state_has : (x : ShiftReduce) → x.state ≡ s → x.token < tokens_len g → IsOfShift (lookup (nat_eq x.token) shifts) (reductions g cores x.token) x
        → Contains (shift_conflicts g cores shifts s) x
    shift_state_has x state within of =
        joined_has (λ t. shift_conflicts_at s t (lookup (nat_eq t) shifts) (reductions g cores t)) (range_with_len 0 (tokens_len g)) x.token x
        (range_has 0 (tokens_len g) x.token (omega arith) (omega (arith, within)))
        (shift_token_has s x.token (lookup (nat_eq x.token) shifts) (reductions g cores x.token) x state refl of)

    shift_state_sorted : IsStrictlySortedBy shift_reduce_cmp (shift_conflicts g cores shifts s)
    shift_state_sorted =
        sorted_joined shift_reduce_cmp (λ t. shift_conflicts_at s t (lookup (nat_eq t) shifts) (reductions g cores t))
        (λ t. shift_token_sorted s t (lookup (nat_eq t) shifts) (reductions g cores t))
        (λ i j x y less one other.
        let left = shift_at_token s i (lookup (nat_eq i) shifts) (reductions g cores i) x one in
        let right = shift_at_token s j (lookup (nat_eq j) shifts) (reductions g cores j) y other in
        let here = left.1 in
        let there = right.1 in
        shift_by_token x y (left.0 ∙ sym right.0) (omega (arith, less, here, there)))
        0 (tokens_len g)

module _ (g : Grammar) (states : List StateOf) (n : ℕ) where
  -- the conflicts of all states
  at_states : (x : ReduceReduce) → Contains (reduce_conflicts_below g states n) x
      → (x.state < n) × (x.token < tokens_len g) × IsOfReductions (reductions g (state_at states x.state).cores x.token) x
  at_states x h =
      let one = joined_member (λ s. reduce_conflicts g (state_at states s).cores s) (range_with_len 0 n) x h in
      let within = range_member 0 n one.0 one.1 in
      let of = at_state g (state_at states one.0).cores one.0 x one.2 in
      let state = of.0 in
      (omega (arith, within, state), of.1, subst (λ s. IsOfReductions (reductions g (state_at states s).cores x.token) x) (sym state) of.2)

  states_have : (x : ReduceReduce) → x.state < n → x.token < tokens_len g → IsOfReductions (reductions g (state_at states x.state).cores x.token) x
      → Contains (reduce_conflicts_below g states n) x
  states_have x state within of =
      joined_has (λ s. reduce_conflicts g (state_at states s).cores s) (range_with_len 0 n) x.state x (range_has 0 n x.state (omega arith) (omega (arith, state)))
      (state_has g (state_at states x.state).cores x.state x refl within of)

  states_sorted : IsStrictlySortedBy reduce_reduce_cmp (reduce_conflicts_below g states n)
  states_sorted =
      sorted_joined reduce_reduce_cmp (λ s. reduce_conflicts g (state_at states s).cores s) (λ s. state_sorted g (state_at states s).cores s)
      (λ i j x y less one other.
      let left = at_state g (state_at states i).cores i x one in
      let right = at_state g (state_at states j).cores j y other in
      let here = left.0 in
      let there = right.0 in
      by_state x y (omega (arith, less, here, there)))
      0 n

  shifts_at_states : (x : ShiftReduce) → Contains (shift_conflicts_below g states n) x
      → (x.state < n) × (x.token < tokens_len g)
      × IsOfShift (lookup (nat_eq x.token) (state_at states x.state).shifts) (reductions g (state_at states x.state).cores x.token) x
  shifts_at_states x h =
      let one = joined_member (λ s. shift_conflicts g (state_at states s).cores (state_at states s).shifts s) (range_with_len 0 n) x h in
      let within = range_member 0 n one.0 one.1 in
      let of = shift_at_state g (state_at states one.0).cores one.0 (state_at states one.0).shifts x one.2 in
      let state = of.0 in (
        omega (arith, within, state),
        of.1,
        subst (λ s. IsOfShift (lookup (nat_eq x.token) (state_at states s).shifts) (reductions g (state_at states s).cores x.token) x) (sym state) of.2,
      )

  shifts_states_have : (x : ShiftReduce) → x.state < n → x.token < tokens_len g
      → IsOfShift (lookup (nat_eq x.token) (state_at states x.state).shifts) (reductions g (state_at states x.state).cores x.token) x
      → Contains (shift_conflicts_below g states n) x
  shifts_states_have x state within of =
      joined_has (λ s. shift_conflicts g (state_at states s).cores (state_at states s).shifts s) (range_with_len 0 n) x.state x
      (range_has 0 n x.state (omega arith) (omega (arith, state)))
      (shift_state_has g (state_at states x.state).cores x.state (state_at states x.state).shifts x refl within of)

  shifts_states_sorted : IsStrictlySortedBy shift_reduce_cmp (shift_conflicts_below g states n)
  shifts_states_sorted =
      sorted_joined shift_reduce_cmp (λ s. shift_conflicts g (state_at states s).cores (state_at states s).shifts s)
      (λ s. shift_state_sorted g (state_at states s).cores s (state_at states s).shifts)
      (λ i j x y less one other.
      let left = shift_at_state g (state_at states i).cores i (state_at states i).shifts x one in
      let right = shift_at_state g (state_at states j).cores j (state_at states j).shifts y other in
      let here = left.0 in
      let there = right.0 in
      shift_by_state x y (omega (arith, less, here, there)))
      0 n

-- lists that aren't kept are empty
pub unless_empty_is : (xs : List ReduceReduce) (ys : List ShiftReduce) → lists_in (unless_empty xs ys) ≡ record { reduce_reduce = xs; shift_reduce = ys }
unless_empty_is [] [] = refl
unless_empty_is [] (y ∷ ys) = refl
unless_empty_is (x ∷ xs) ys = refl

-- there are none if both are empty; otherwise both are kept
pub unless_empty_none : (xs : List ReduceReduce) (ys : List ShiftReduce) → length xs ≡ 0 → length ys ≡ 0 → None ≡ unless_empty xs ys
unless_empty_none [] [] none nothing = refl
unless_empty_none [] (y ∷ ys) none nothing = absurd (omega (arith, nothing))
unless_empty_none (x ∷ xs) ys none nothing = absurd (omega (arith, none))

pub unless_empty_kept : (lists : ConflictLists) (xs : List ReduceReduce) (ys : List ShiftReduce) → lists.reduce_reduce ≡ xs → lists.shift_reduce ≡ ys
    → (0 < length xs) ⊎ (0 < length ys) → Some lists ≡ unless_empty xs ys
unless_empty_kept lists [] [] rr sr (inl some) = absurd (omega (arith, some))
unless_empty_kept lists [] [] rr sr (inr some) = absurd (omega (arith, some))
unless_empty_kept lists [] (y ∷ ys) rr sr some = λ i. Some (record { reduce_reduce = rr i; shift_reduce = sr i })
unless_empty_kept lists (x ∷ xs) ys rr sr some = λ i. Some (record { reduce_reduce = rr i; shift_reduce = sr i })

-- lists that are kept aren't both empty
pub unless_empty_some : (xs : List ReduceReduce) (ys : List ShiftReduce) (lists : ConflictLists) → unless_empty xs ys ≡ Some lists
    → lists.reduce_reduce ≡ [] → lists.shift_reduce ≡ [] → ⊥
unless_empty_some [] [] lists is none nothing = absurd (cc)
unless_empty_some [] (y ∷ ys) lists is none nothing =
    let both : y ∷ ys ≡ [] = ap (λ (l : ConflictLists). l.shift_reduce) (ap lists_in is) ∙ nothing in absurd (cc)
unless_empty_some (x ∷ xs) ys lists is none nothing =
    let both : x ∷ xs ≡ [] = ap (λ (l : ConflictLists). l.reduce_reduce) (ap lists_in is) ∙ none in absurd (cc)

-- the conflicts that precedences don't resolve
none_from_test : (o : Option Resolution) → is_none o ≡ true → o ≡ None
none_from_test None is = refl
none_from_test (Some by) is = absurd (cc)

unresolved_are : (precedences : PrecedenceLists) (xs : List ShiftReduce) (x : ShiftReduce)
    → Contains (unresolved precedences xs) x ↔ (Contains xs x × (resolution_of precedences x.prod x.token ≡ None))
unresolved_are precedences xs x =
    let test : ShiftReduce → Bool = λ y. is_none (resolution_of precedences y.prod y.token) in (
      λ h. let kept = filter_member test xs x h in (kept.0, none_from_test (resolution_of precedences x.prod x.token) kept.1),
      λ h. filter_has test xs x h.0 (ap (λ (o : Option Resolution). is_none o) h.1),
    )

-- those that they resolve, and how
with_parts : (y : ShiftReduce) (o : Option Resolution) (x : ResolvedOf) → option_map (λ by. record { conflict = y; by = by }) o ≡ Some x
    → (y ≡ x.conflict) × (o ≡ Some x.by)
with_parts y None x is = absurd (cc)
with_parts y (Some by) x is =
    let made : ResolvedOf = record { conflict = y; by = by } in
    let same : made ≡ x = cc in (ap (λ (z : ResolvedOf). z.conflict) same, ap (λ (z : ResolvedOf). Some z.by) same)

resolutions_are : (precedences : PrecedenceLists) (xs : List ShiftReduce) (x : ResolvedOf)
    → Contains (resolutions precedences xs) x ↔ (Contains xs x.conflict × (resolution_of precedences x.conflict.prod x.conflict.token ≡ Some x.by))
resolutions_are precedences xs x = (
  λ h.
      let from = image_member (resolution_with precedences) xs x h in
      let y = from.0 in
      let parts = with_parts y (resolution_of precedences y.prod y.token) x from.2 in (
        subst (Contains xs) parts.0 from.1,
        subst (λ (z : ShiftReduce). resolution_of precedences z.prod z.token ≡ Some x.by) parts.0 parts.1,
      ),
  λ h. image_has (resolution_with precedences) xs x.conflict x h.0 (ap (option_map (λ by. record { conflict = x.conflict; by = by })) h.1),
)

-- they are in order
pub in_order : (precedences : PrecedenceLists) (g : Grammar) (states : List StateOf) (n : ℕ)
    → AreInOrder (lists_in (unless_empty (reduce_conflicts_below g states n) (unresolved precedences (shift_conflicts_below g states n))))
in_order precedences g states n =
    subst AreInOrder (sym (unless_empty_is (reduce_conflicts_below g states n) (unresolved precedences (shift_conflicts_below g states n))))
    (record {
      reduce_reduce = states_sorted g states n;
      shift_reduce = sorted_filter shift_reduce_cmp _ (shift_conflicts_below g states n) (shifts_states_sorted g states n);
    })

pub resolved_in_order : (precedences : PrecedenceLists) (g : Grammar) (states : List StateOf) (n : ℕ)
    → AreResolvedInOrder (resolutions precedences (shift_conflicts_below g states n))
resolved_in_order precedences g states n =
    sorted_images shift_reduce_cmp (λ (x y : ResolvedOf). shift_reduce_cmp x.conflict y.conflict) (resolution_with precedences)
    (λ x z y w is also less.
    let left = (with_parts x (resolution_of precedences x.prod x.token) y is).0 in
    let right = (with_parts z (resolution_of precedences z.prod z.token) w also).0 in
    sym (ap (λ v. shift_reduce_cmp v w.conflict) left) ∙ sym (ap (shift_reduce_cmp x) right) ∙ less)
    (shift_conflicts_below g states n) (shifts_states_sorted g states n)

-- the reduction by the least production is the first of the list
first_splits : (g : Grammar) (sets : ℕ → ItemOf → Type 0) (s : ℕ) (cores : List CoreSet) → All (IsCoreOf g) cores → AreSame (sets s) (IsAmong cores)
    → (t p : ℕ) → HasFirstReduce g sets s t p → (later : List ℕ) × (reductions g cores t ≡ p ∷ later)
first_splits g sets s cores known is t p first =
    let cases : (prods : List ℕ) → reductions g cores t ≡ prods → (later : List ℕ) × (reductions g cores t ≡ p ∷ later) = λ ps.
    elim ps as (λ ks. reductions g cores t ≡ ks → (later : List ℕ) × (reductions g cores t ≡ p ∷ later)) [
      | [] ↦ λ at. absurd (none_is g sets s cores known is t p at first.0)
      | q ∷ later ↦ λ at.
          let other = first_is g sets s cores known is t q later at in
          let same : q ≡ p = first_alone g sets s cores known is t q p other first in
          (later, at ∙ ap (λ k. k ∷ later) same)
    ] in
    cases (reductions g cores t) refl

module _ (g : Grammar) (states : List StateOf) (goes : ℕ → GrammarSymbol → ℕ → Type 0) (are : AreStatesAlong g states goes) (sets : ℕ → ItemOf → Type 0)
    (same : (s : ℕ) → AreSame (sets s) (sets_at states s)) where
  -- the listed conflicts are those of the sets
  reduce_is : (x : ReduceReduce) → x.state < length states
      → IsOfReductions (reductions g (state_at states x.state).cores x.token) x ↔ IsReduceConflict g sets x
  reduce_is x below =
      let s = x.state in
      let t = x.token in
      let cores = (state_at states s).cores in
      let known = are.rows.cores s below in
      let prods = reductions g cores t in (
        λ h.
            let up : AscendFrom 0 (x.first ∷ h.0) = subst (AscendFrom 0) h.1 (reductions_ascend g cores t) in
            let above = first_least (x.first + 1) x.second h.0 up.1 h.2 in (
              first_is g sets s cores known (same s) t x.first h.0 h.1,
              (candidate_is g sets s cores known (same s) t x.second).1
                  (subst (λ (ps : List ℕ). Contains ps x.second) (sym h.1) (member_later x.first h.0 x.second h.2)),
              omega (arith, above),
            ),
        λ h.
            let split = first_splits g sets s cores known (same s) t x.first h.0 in
            let there = subst (λ (ps : List ℕ). Contains ps x.second) split.1 ((candidate_is g sets s cores known (same s) t x.second).0 h.1) in (
              split.0,
              split.1,
              elim (member_cases x.first split.0 x.second there) [
                | inl here ↦ let less = h.2 in absurd (omega (arith, here, less))
                | inr later ↦ later
              ],
            ),
      )

  shift_is : (x : ShiftReduce) → x.state < length states
      → IsOfShift (lookup (nat_eq x.token) (state_at states x.state).shifts) (reductions g (state_at states x.state).cores x.token) x
      ↔ IsShiftConflict g sets x
  shift_is x below =
      let s = x.state in
      let t = x.token in
      let cores = (state_at states s).cores in
      let known = are.rows.cores s below in
      let step = are.shifts s t below in (
        λ h. (
          before_same g sets (sets_at states) same s (Terminal t)
              (step_before g (sets_at states) goes s (Terminal t) (lookup (nat_eq t) (state_at states s).shifts) h.0.0 step h.0.1),
          first_is g sets s cores known (same s) t x.prod h.1.0 h.1.1,
        ),
        λ h. (
          before_step g (sets_at states) goes s (Terminal t) (lookup (nat_eq t) (state_at states s).shifts) step
              (before_other g sets (sets_at states) same s (Terminal t) h.0),
          first_splits g sets s cores known (same s) t x.prod h.1,
        ),
      )

-- so they are those of a graph that has the same items
pub conflicts_are : (precedences : PrecedenceLists) (g : Grammar) (states : List StateOf) (goes : ℕ → GrammarSymbol → ℕ → Type 0) → AreStatesAlong g states goes
    → (graph : Graph) → graph_len graph ≡ length states
    → ((s : ℕ) → AreSame (sets_of graph s) (sets_at states s))
    → AreConflictsBy g precedences graph
    (unless_empty (reduce_conflicts_below g states (length states)) (unresolved precedences (shift_conflicts_below g states (length states))))
conflicts_are precedences g states goes are graph len same =
    let n = length states in
    let xs = reduce_conflicts_below g states n in
    let met = shift_conflicts_below g states n in
    let ys = unresolved precedences met in
    record {
      reduce_reduce = λ x.
          subst (λ (lists : ConflictLists). Contains lists.reduce_reduce x
          ↔ ((x.state < graph_len graph) × (x.token < tokens_len g) × IsReduceConflict g (sets_of graph) x)) (sym (unless_empty_is xs ys)) (
            λ h. let one = at_states g states n x h in
                (subst (λ k. x.state < k) (sym len) one.0, one.1, (reduce_is g states goes are (sets_of graph) same x one.0).0 one.2),
            λ h. let below = subst (λ k. x.state < k) len h.0 in
                states_have g states n x below h.1 ((reduce_is g states goes are (sets_of graph) same x below).1 h.2),
          );
      shift_reduce = λ x.
          subst (λ (lists : ConflictLists). Contains lists.shift_reduce x
          ↔ ((x.state < graph_len graph) × (x.token < tokens_len g) × IsUnresolvedConflict g precedences (sets_of graph) x)) (sym (unless_empty_is xs ys)) (
            λ h. let kept = (unresolved_are precedences met x).0 h in
                let one = shifts_at_states g states n x kept.0 in
                (subst (λ k. x.state < k) (sym len) one.0, one.1, ((shift_is g states goes are (sets_of graph) same x one.0).0 one.2, kept.1)),
            λ h. let below = subst (λ k. x.state < k) len h.0 in
                (unresolved_are precedences met x).1
                (shifts_states_have g states n x below h.1 ((shift_is g states goes are (sets_of graph) same x below).1 h.2.0), h.2.1),
          );
      some = λ lists is none nothing. unless_empty_some xs ys lists is none nothing;
    }

-- and so are the resolved ones
pub resolved_are : (precedences : PrecedenceLists) (g : Grammar) (states : List StateOf) (goes : ℕ → GrammarSymbol → ℕ → Type 0) → AreStatesAlong g states goes
    → (graph : Graph) → graph_len graph ≡ length states
    → ((s : ℕ) → AreSame (sets_of graph s) (sets_at states s))
    → AreResolvedBy g precedences graph (resolutions precedences (shift_conflicts_below g states (length states)))
resolved_are precedences g states goes are graph len same x =
    let n = length states in
    let met = shift_conflicts_below g states n in (
      λ h.
          let kept = (resolutions_are precedences met x).0 h in
          let one = shifts_at_states g states n x.conflict kept.0 in
          (subst (λ k. x.conflict.state < k) (sym len) one.0, one.1, ((shift_is g states goes are (sets_of graph) same x.conflict one.0).0 one.2, kept.1)),
      λ h.
          let below = subst (λ k. x.conflict.state < k) len h.0 in
          (resolutions_are precedences met x).1
          (shifts_states_have g states n x.conflict below h.1 ((shift_is g states goes are (sets_of graph) same x.conflict below).1 h.2.0), h.2.1),
    )
