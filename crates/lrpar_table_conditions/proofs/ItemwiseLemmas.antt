-- What the tests of the conditions of completeness decide. The items of one core are tested together, by their lookaheads.
use Rattle.std.proofs.Common.{◌≡◌, ◌≢◌, ◌<◌, ◌≤◌, ◌+◌, ◌-◌, ◌↔◌, ◌∙◌, ◌⊎◌, ◌||◌, ◌==◌, inl, inr, refl, sym, ap, subst, arith, ℕ, zero, suc, Bool, true, false, IsTrue, List, [], ◌∷◌, ◌++◌, All, length, map, drop, take, get_or, set, slice_get, Some, Option, cond, eqb, Bor, IfSome, MatchOption, None}
use Rattle.std.proofs.lemmas.Bool.{cases_eq, eq-eqb, eqb-true, false≢true, false_from_ne_true, or_cases, or_left, or_right}
use Rattle.std.proofs.lemmas.List.{drop_more, get_or-set_other, get_or-set_same, length-map, length-set, length-take-le, take_all, take_more}
use Rattle.std.proofs.lemmas.List.Elements.{All-contains, All-contains_itself, All-set, Contains-append_left, Contains-push, Contains-push_cases}
use Rattle.std.proofs.lemmas.Option.{get_or_from_slice_get, same_Some, slice_get_within}
use Rattle.std.specs.List.{Contains, HoldsAt}
use Rattle.std.specs.Option.{option_map_or}
use Rattle.lrpar_grammar_places.specs.declared.span.PIdx.{PIdx}
use Rattle.lrpar_grammar_places.specs.declared.span.StIdx.{StIdx}
use Rattle.lrpar_grammar_places.specs.declared.span.TIdx.{TIdx}
use Rattle.lrpar_grammar.specs.Grammar.{Grammar, GrammarSymbol, IsWellFormed, Nonterminal, Terminal, Production, prod_len, prods_from, prods_len, prods_of, rule_of, rules_len, symbols_of, tokens_len}
use Rattle.lrpar_grammar_places.proofs.ListLemmas.{All-map-at}
use Rattle.lrpar_table_first.specs.First.{IsFirst}
use Rattle.lrpar_table_first.specs.FirstRows.{IsFirstBefore, IsSymbolBelow, dummy_lookahead, row_at, rows_of}
use Rattle.lrpar_grammar.specs.Tokens.{has}
use Rattle.lrpar_grammar.specs.declared.token_set.TokenSet.{TokenSet}
use Rattle.lrpar_table_first.proofs.GrowthLemmas.{row_in, rows-set}
use Rattle.lrpar_table_first.proofs.RowLemmas.{row_is}
use Rattle.lrpar_table_first.proofs.SymbolLemmas.{prod_symbols}
use Rattle.lrpar_table_rows.specs.Graph.{Graph, HasCore, HasItem, items_of}
use Rattle.lrpar_table_rows.specs.PlainItems.{core_of}
use Rattle.lrpar_table_rows.specs.Safe.{GoesBy}
use Rattle.lrpar_table_rows.specs.PlainRows.{plain_action}
use Rattle.lrpar_table_rows.specs.Table.{Table, TableAction, ShiftTo, ReduceBy, Accepts, Fails, action_of}
use Rattle.lrpar_table_rows.specs.declared.rows.Action.{Action}
use Rattle.lrpar_table_rows.specs.declared.rows.Action.TheVariants.{Shift, Reduce, Accept, Error}
use Rattle.lrpar_table_conditions.specs.Complete.{ClosesItem, EndsItem, StepsOn, EachItem, IsCompleteAt}
use Rattle.lrpar_table_conditions.specs.Tested.{HasCoreIn, HasSetsIn, IsTestable}
use Rattle.lrpar_table_conditions.specs.declared.completeness_test.Completeness.{Completeness}
use Rattle.lrpar_table_conditions.proofs.CoreLemmas.{core_known}
use Rattle.lrpar_table_conditions.specs.Itemwise.{AreStartsOf, ClosesAmong, EachOfCore, EndsBy, HaveStarts, ItemHolds}
use Rattle.lrpar_table_conditions.specs.declared.completeness.CompletenessCondition.{CompletenessCondition}
use Rattle.lrpar_table_conditions.specs.declared.completeness.CompletenessCondition.TheVariants.{C1, C2, C3, C4, C5}
use Rattle.lrpar_table_conditions.proofs.FirstTokenLemmas.{at_drop}
use Rattle.lrpar_table_rows.proofs.GraphLemmas.{all_cores}
use Rattle.lrpar_table_rows.proofs.ItemLemmas.{Contains-image, Contains-preimage}
use Rattle.lrpar_table_rows.proofs.TestLemmas.{accepted, each_more, refused}
use Rattle.lrpar_table_conditions.specs.Completeness.{condition_number}
use Rattle.lrpar_table_conditions.specs.declared.completeness.TheConstants.CompletenessCondition.{ALL}

-- a lookahead that was read is that of an item with the core
pub lookahead_read : {S : Type 0} (index : S → ℕ) (H : ℕ → Type 0) (tokens : List (TIdx S)) (i : ℕ) (token : TIdx S)
    → ((t : ℕ) → Contains (map (λ (x : TIdx S). index x.0) tokens) t ↔ H t) → i < length tokens → token ≡ get_or tokens i token → H (index token.0)
lookahead_read {S} index H tokens i token are within is =
    (are (index token.0)).0 (Contains-image (λ (x : TIdx S). index x.0) tokens token (i, within, sym is))

-- what holds of each lookahead that was read holds for each item with the core
pub each_lookahead : {S : Type 0} (index : S → ℕ) (H P : ℕ → Type 0) (tokens : List (TIdx S)) (i : ℕ)
    → ((t : ℕ) → Contains (map (λ (x : TIdx S). index x.0) tokens) t ↔ H t) → length tokens ≤ i
    → ((k : ℕ) (d : TIdx S) → k < i → P (index (get_or tokens k d).0)) → (t : ℕ) → H t → P t
each_lookahead {S} index H P tokens i are past holds t h =
    let x = Contains-preimage (λ (y : TIdx S). index y.0) tokens t ((are t).1 h) in
    let all : All (λ (y : TIdx S). P (index y.0)) tokens = λ k d below. holds k d (omega (arith, past, below)) in
    subst P x.2 (All-contains (λ (y : TIdx S). P (index y.0)) tokens x.0 all x.1)

-- so a test of each lookahead is a test of each such item
pub all_lookaheads : {S : Type 0} (index : S → ℕ) (H P : ℕ → Type 0) (tokens : List (TIdx S))
    → ((t : ℕ) → Contains (map (λ (x : TIdx S). index x.0) tokens) t ↔ H t) → All (λ (x : TIdx S). P (index x.0)) tokens ↔ ((t : ℕ) → H t → P t)
all_lookaheads {S} index H P tokens are = (
  λ all. each_lookahead index H P tokens (length tokens) are (omega arith) all,
  λ each i d below.
      let x = get_or tokens i d in
      each (index x.0) ((are (index x.0)).0 (Contains-image (λ (y : TIdx S). index y.0) tokens x (All-contains_itself tokens i d below))),
)

-- this holds for each item of s with one of the first i cores
abbrev pub EachOfFirst : {S : Type 0} → (S → ℕ) → Graph → ℕ → (ℕ → ℕ → ℕ → Type 0) → List (PIdx S × ℕ) → ℕ → Type 0
EachOfFirst {S} index graph s Holds cores i =
    (n : ℕ) (d : PIdx S × ℕ) → n < i → EachOfCore graph s (index (get_or cores n d).0.0) (get_or cores n d).1 Holds

-- and with one more
pub core_more : {S : Type 0} (index : S → ℕ) (graph : Graph) (s : ℕ) (Holds : ℕ → ℕ → ℕ → Type 0) (cores : List (PIdx S × ℕ)) (i : ℕ) (core : PIdx S × ℕ)
    → i < length cores → core ≡ get_or cores i core → EachOfCore graph s (index core.0.0) core.1 Holds → EachOfFirst index graph s Holds cores i
    → EachOfFirst index graph s Holds cores (i + 1)
core_more {S} index graph s Holds cores i core within is here so_far =
    each_more (λ (x : PIdx S × ℕ). EachOfCore graph s (index x.0.0) x.1 Holds) cores i core within is here so_far

-- with all cores of the state it holds for each of its items
pub core_each : {S : Type 0} (index : S → ℕ) (graph : Graph) (s : ℕ) (Holds : ℕ → ℕ → ℕ → Type 0) (cores : List (PIdx S × ℕ)) (i : ℕ)
    → ((p k : ℕ) → HasCore graph s p k ↔ Contains (map (core_of index) cores) (p, k)) → length cores ≤ i → EachOfFirst index graph s Holds cores i
    → EachItem graph s Holds
core_each {S} index graph s Holds cores i are past so_far p k t has =
    let each = (all_cores index (λ p k. EachOfCore graph s p k Holds) graph s cores are).0 (λ n d below. so_far n d (omega (arith, past, below))) in
    each p k (t, has) t has

-- what holds of each item with the core holds of each of its lookaheads
pub all_of_core : {S : Type 0} (index : S → ℕ) (H : ℕ → Type 0) (tokens : List (TIdx S)) → ((t : ℕ) → Contains (map (λ (x : TIdx S). index x.0) tokens) t ↔ H t)
    → All (λ (x : TIdx S). H (index x.0)) tokens
all_of_core {S} index H tokens is i d below =
    let x = get_or tokens i d in
    let here = All-contains_itself tokens i d below in
    (is (index x.0)).0 (Contains-image (λ (y : TIdx S). index y.0) tokens x here)

-- what holds of each element holds of the one that is found at a place
pub found_holds : {X : Type 0} (P : X → Type 0) (xs : List X) (k : ℕ) (found : Option (Bor X)) → All P xs
    → IfSome found (λ x. x.now ≡ get_or xs k x.now) → MatchOption found (length xs ≤ k) (λ x. (k < length xs) × HoldsAt (λ y. x.now ≡ y) xs k)
    → IfSome found (λ x. P x.now)
found_holds P xs k None all is cases = tt
found_holds P xs k (Some x) all is cases = subst P (sym is) (all k x.now cases.0)

-- equivalent facts of each item with a core
pub each_same : (H P Q : ℕ → Type 0) (b : Bool) → ((t : ℕ) → P t ↔ Q t) → IsTrue b ↔ ((t : ℕ) → H t → P t) → IsTrue b ↔ ((t : ℕ) → H t → Q t)
each_same H P Q b same test = (
  λ h t has. (same t).0 (test.0 h t has),
  λ all. test.1 (λ t has. (same t).1 (all t has)),
)

-- with one more first element
one_more : (xs : List ℕ) (y x : ℕ) → Contains xs x → Contains (y ∷ xs) x
one_more xs y x h = (suc h.0, omega (arith, h.1), h.2)

-- there is an element at each place within a list
some_at : {X : Type 0} (xs : List X) (i : ℕ) → i < length xs → (x : X) × (slice_get xs i ≡ Some x)
some_at [] i within = absurd (omega arith)
some_at (x ∷ xs) zero within = (x, refl)
some_at (x ∷ xs) (suc i) within = some_at xs i (omega arith)

-- the productions of a rule
prods_from_has : (r p : ℕ) (xs : List Production) (i : ℕ) (x : Production) → slice_get xs i ≡ Some x → x.rule ≡ r → Contains (prods_from r p xs) (p + i)
prods_from_has r p [] i x at is = let within : i < length (the_prods []) = slice_get_within [] i x at in absurd (omega (arith, within))
  where
    the_prods : List Production → List Production
    the_prods ps = ps
prods_from_has r p (y ∷ ys) zero x at is =
    let same : y ≡ x = cc in
    let by : y.rule ≡ r = ap (λ (z : Production). z.rule) same ∙ is in
    let rest = prods_from r (p + 1) ys in
    let here : p ≡ p + 0 = omega arith in
    subst (λ (b : Bool). Contains (cond b (p ∷ rest) rest) (p + 0)) (sym (eq-eqb y.rule r by)) (0, omega arith, here)
prods_from_has r p (y ∷ ys) (suc i) x at is =
    let rest = prods_from r (p + 1) ys in
    let place : p + 1 + i ≡ p + suc i = omega arith in
    let later : Contains rest (p + suc i) = subst (Contains rest) place (prods_from_has r (p + 1) ys i x at is) in
    elim (eqb y.rule r) as (λ b. Contains (cond b (p ∷ rest) rest) (p + suc i)) [ true ↦ one_more rest p (p + suc i) later | false ↦ later ]

-- the place of a number among the productions of a rule
record IsOfRule (r p : ℕ) (xs : List Production) (q : ℕ) : Type 0 where
  pub place : ℕ
  pub is : q ≡ p + place
  pub prod : Production
  pub at : slice_get xs place ≡ Some prod
  pub rule : prod.rule ≡ r

later_of_rule : (r p : ℕ) (y : Production) (ys : List Production) (q : ℕ) → IsOfRule r (p + 1) ys q → IsOfRule r p (y ∷ ys) q
later_of_rule r p y ys q h = record {
  place = suc h.place;
  is = let is = h.is in omega (arith, is);
  prod = h.prod;
  at = h.at;
  rule = h.rule;
}

by_test : (r p : ℕ) (y : Production) (ys : List Production) (q : ℕ) → (Contains (prods_from r (p + 1) ys) q → IsOfRule r (p + 1) ys q)
    → (b : Bool) → eqb y.rule r ≡ b → Contains (cond b (p ∷ prods_from r (p + 1) ys) (prods_from r (p + 1) ys)) q → IsOfRule r p (y ∷ ys) q
by_test r p y ys q later true passes (zero, below, is) = record {
  place = 0;
  is = omega (arith, is);
  prod = y;
  at = refl;
  rule = eqb-true y.rule r passes;
}
by_test r p y ys q later true passes (suc i, below, is) = later_of_rule r p y ys q (later (i, omega (arith, below), is))
by_test r p y ys q later false passes h = later_of_rule r p y ys q (later h)

prods_from_of : (r p : ℕ) (xs : List Production) (q : ℕ) → Contains (prods_from r p xs) q → IsOfRule r p xs q
prods_from_of r p [] q h = absurd (omega (arith, h.1))
prods_from_of r p (y ∷ ys) q h = by_test r p y ys q (prods_from_of r (p + 1) ys q) (eqb y.rule r) refl h

-- what holds of each production of a rule
pub each_of_rule : (g : Grammar) (r : ℕ) (P : ℕ → Type 0) → All P (prods_of g r) ↔ ((q : ℕ) → q < prods_len g → rule_of g q ≡ r → P q)
each_of_rule g r P = (
  λ all q known by.
      let here = some_at g.prods q known in
      let is : here.0.rule ≡ r = sym (ap (λ (o : Option Production). option_map_or (λ x. x.rule) o 0) here.1) ∙ by in
      let none : 0 + q ≡ q = omega arith in
      All-contains P (prods_of g r) q all (subst (Contains (prods_of g r)) none (prods_from_has r 0 g.prods q here.0 here.1 is)),
  λ each i d below.
      let q = get_or (prods_of g r) i d in
      let of = prods_from_of r 0 g.prods q (All-contains_itself (prods_of g r) i d below) in
      let same : q ≡ of.place = let is = of.is in omega (arith, is) in
      let at : slice_get g.prods q ≡ Some of.prod = ap (slice_get g.prods) same ∙ of.at in
      each q (slice_get_within g.prods q of.prod at) (ap (λ (o : Option Production). option_map_or (λ x. x.rule) o 0) at ∙ of.rule),
)

-- what was put into an empty set is all that it has
pub only_put : (empty bits : List Bool) (Put : ℕ → Type 0) → ((t : ℕ) → has empty t ≡ false) → ((t : ℕ) → IsTrue (has bits t) ↔ (IsTrue (has empty t) ⊎ Put t))
    → (t : ℕ) → IsTrue (has bits t) ↔ Put t
only_put empty bits Put none put t = (
  λ h. elim ((put t).0 h) as (λ _. Put t) [ inl before ↦ absurd (false≢true (sym (none t) ∙ before)) | inr now ↦ now ],
  λ h. (put t).1 (inr h),
)

-- C2 by the set of lookaheads, and by the set of First(w, t) for these lookaheads t
pub closed_core : (g : Grammar) (graph : Graph) (s : ℕ) (rows : List (List Bool)) (p k r : ℕ) (w : List GrammarSymbol) (after begun : List Bool) (test : Bool)
    → drop k (symbols_of g p) ≡ Nonterminal r ∷ w → ((t : ℕ) → IsTrue (has after t) ↔ HasItem graph s p k t)
    → ((t : ℕ) → IsTrue (has begun t) ↔ IsFirstBefore g after w t)
    → IsTrue test ↔ ((q b : ℕ) → q < prods_len g → rule_of g q ≡ r → IsTrue (has begun b) → IsTrue (has (row_at rows q) b))
    → IsTrue test ↔ EachOfCore graph s p k (ClosesAmong g rows)
closed_core g graph s rows p k r w after begun test further are firsts decides = (
  λ h t has_t r' w' after' q b known by first.
      let same : Nonterminal r' ∷ w' ≡ Nonterminal r ∷ w = sym after' ∙ further in
      let same_rule : r' ≡ r = cc in
      let same_rest : w' ≡ w = cc in
      let first' = subst (λ (v : List GrammarSymbol). IsFirst g t v b) same_rest first in
      decides.0 h q b known (by ∙ same_rule) ((firsts b).1 (t, (are t).1 has_t, first')),
  λ all. decides.1 (λ q b known by has_b.
      let first = (firsts b).0 has_b in
      all first.0 ((are first.0).0 first.1) r w further q b known by first.2),
)

-- C2 if no rule is after the dot
pub nothing_to_close : (g : Grammar) (graph : Graph) (s : ℕ) (rows : List (List Bool)) (p k : ℕ)
    → ((r : ℕ) (w : List GrammarSymbol) → drop k (symbols_of g p) ≢ Nonterminal r ∷ w) → IsTrue true ↔ EachOfCore graph s p k (ClosesAmong g rows)
nothing_to_close g graph s rows p k none = accepted (λ t has r w further. absurd (none r w further))

-- by the lookaheads of a state's items with dot 0 it is C2 of the state
pub closes_by_starts : (g : Grammar) (graph : Graph) (s p k t : ℕ) (rows : List (List Bool)) → AreStartsOf (items_of graph s) rows
    → ClosesAmong g rows p k t ↔ ClosesItem g graph s p k t
closes_by_starts g graph s p k t rows starts = (
  λ among r w further q b known by first. (starts q b).0 (among r w further q b known by first),
  λ closes r w further q b known by first. (starts q b).1 (closes r w further q b known by first),
)

-- the number of a token, and that of a rule, is the symbol's own
pub tokens_apart : (a b : ℕ) → Terminal a ≡ Terminal b → a ≡ b
tokens_apart a b same = cc

pub rules_apart : (a b : ℕ) → Nonterminal a ≡ Nonterminal b → a ≡ b
rules_apart a b same = cc

-- what a core steps on: C3 by the token after the dot, C4 by the rule
abbrev pub StepsOf : (ℕ → GrammarSymbol) → Grammar → Graph → Table → ℕ → ℕ → ℕ → ℕ → Type 0
StepsOf kind g graph table s p k t = (n : ℕ) → slice_get (symbols_of g p) k ≡ Some (kind n) → StepsOn graph table s (kind n) p k t

-- the symbol after the dot is of this kind: it decides
pub each_of_kind : (kind : ℕ → GrammarSymbol) → ((a b : ℕ) → kind a ≡ kind b → a ≡ b) → (g : Grammar) (graph : Graph) (table : Table) (s p k n : ℕ) (test : Bool)
    → slice_get (symbols_of g p) k ≡ Some (kind n) → IsTrue test ↔ EachOfCore graph s p k (StepsOn graph table s (kind n))
    → IsTrue test ↔ EachOfCore graph s p k (StepsOf kind g graph table s)
each_of_kind kind apart g graph table s p k n test at decides =
    each_same (HasItem graph s p k) (StepsOn graph table s (kind n) p k) (StepsOf kind g graph table s p k) test
    (λ t. (
      λ step m further. subst (λ (x : ℕ). StepsOn graph table s (kind x) p k t) (apart n m (same_Some _ _ (sym at ∙ further))) step,
      λ steps. steps n at,
    )) decides

-- and it isn't: nothing is asked
pub nothing_to_step : (kind : ℕ → GrammarSymbol) (g : Grammar) (graph : Graph) (table : Table) (s p k : ℕ) → ((n : ℕ) → slice_get (symbols_of g p) k ≢ Some (kind n))
    → IsTrue true ↔ EachOfCore graph s p k (StepsOf kind g graph table s)
nothing_to_step kind g graph table s p k none = accepted (λ t has n further. absurd (none n further))

-- a transition, by the state to which it leads
pub steps_each : (graph : Graph) (table : Table) (s : ℕ) (x : GrammarSymbol) (next p k : ℕ) (test : Bool) → GoesBy table s x next
    → ((n : ℕ) → GoesBy table s x n → n ≡ next) → IsTrue test ↔ ((t : ℕ) → HasItem graph s p k t → HasItem graph next p (k + 1) t)
    → IsTrue test ↔ EachOfCore graph s p k (StepsOn graph table s x)
steps_each graph table s x next p k test goes one decides =
    each_same (HasItem graph s p k) (HasItem graph next p (k + 1)) (StepsOn graph table s x p k) test
    (λ t. (
      λ has. (next, goes, has),
      λ step. subst (λ (n : ℕ). HasItem graph n p (k + 1) t) (one step.0 step.1) step.2,
    )) decides

-- a state without a transition by the symbol has none
pub steps_none : (graph : Graph) (table : Table) (s : ℕ) (x : GrammarSymbol) (p k : ℕ) → HasCore graph s p k → ((n : ℕ) → ¬ (GoesBy table s x n))
    → IsTrue false ↔ EachOfCore graph s p k (StepsOn graph table s x)
steps_none graph table s x p k core never = refused (λ all. let first = all core.0 core.1 in never first.0 first.1)

-- C5 if the dot is at the end
pub ends_each : (g : Grammar) (graph : Graph) (table : Table) (s p k : ℕ) (test : Bool) → k ≡ prod_len g p
    → IsTrue test ↔ ((t : ℕ) → HasItem graph s p k t → EndsBy g p (action_of table s t)) → IsTrue test ↔ EachOfCore graph s p k (EndsItem g table s)
ends_each g graph table s p k test all decides =
    each_same (HasItem graph s p k) (λ t. EndsBy g p (action_of table s t)) (EndsItem g table s p k) test
    (λ t. (
      λ ends. record { reduces = λ _. ends.reduces; accepts = λ _. ends.accepts },
      λ ends. record { reduces = ends.reduces all; accepts = ends.accepts all },
    )) decides

-- a condition holds for each item exactly if it holds at the state
pub asked_at : (g : Grammar) (graph : Graph) (table : Table) (condition : CompletenessCondition) (s : ℕ) → condition ≢ C1 → condition ≢ C2
    → EachItem graph s (ItemHolds g graph table condition s) ↔ IsCompleteAt g graph table condition s
asked_at g graph table C1 s other another = absurd (other refl)
asked_at g graph table C2 s other another = absurd (another refl)
asked_at g graph table C3 s other another = (λ h. h, λ h. h)
asked_at g graph table C4 s other another = (λ h. h, λ h. h)
asked_at g graph table C5 s other another = (λ h. h, λ h. h)

-- what is there now was there before, or is added by one of the elements; and no more
abbrev pub AreAdded : {X Y : Type 0} → (X → Y → Type 0) → List X → (Y → Type 0) → (Y → Type 0) → Type 0
AreAdded {X} {Y} Adds xs Before Now = (y : Y) → Now y ↔ (Before y ⊎ ((x : X) × Contains xs x × Adds x y))

-- no element yet
pub none_added : {X Y : Type 0} (Adds : X → Y → Type 0) (xs : List X) (Before : Y → Type 0) → AreAdded Adds (take 0 xs) Before Before
none_added Adds xs Before y = (
  λ h. inl h,
  λ h. elim h as (λ _. Before y) [ inl before ↦ before | inr added ↦ absurd (let within = added.1.1 in omega (arith, within, length-take-le 0 xs)) ],
)

-- one more element
pub one_added : {X Y : Type 0} (Adds : X → Y → Type 0) (xs : List X) (i : ℕ) (x : X) (Before Old New : Y → Type 0) → i < length xs → x ≡ get_or xs i x
    → ((y : Y) → New y ↔ (Old y ⊎ Adds x y)) → AreAdded Adds (take i xs) Before Old → AreAdded Adds (take (i + 1) xs) Before New
one_added {X} {Y} Adds xs i x Before Old New within is adds so_far y =
    let more : take (i + 1) xs ≡ take i xs ++ x ∷ [] = take_more xs i x within ∙ ap (λ (z : X). take i xs ++ z ∷ []) (sym is) in
    let Added : List X → Type 0 = λ ys. (z : X) × Contains ys z × Adds z y in
    subst (λ (ys : List X). New y ↔ (Before y ⊎ Added ys)) (sym more) (
      λ h. elim ((adds y).0 h) as (λ _. Before y ⊎ Added (take i xs ++ x ∷ [])) [
        | inl old ↦ elim ((so_far y).0 old) as (λ _. Before y ⊎ Added (take i xs ++ x ∷ [])) [
          | inl before ↦ inl before
          | inr added ↦ inr (added.0, Contains-append_left (take i xs) (x ∷ []) added.0 added.1, added.2)
        ]
        | inr here ↦ inr (x, Contains-push (take i xs) x, here)
      ],
      λ h. elim h as (λ _. New y) [
        | inl before ↦ (adds y).1 (inl ((so_far y).1 (inl before)))
        | inr added ↦ elim (Contains-push_cases (take i xs) x added.0 added.1) as (λ _. New y) [
          | inl earlier ↦ (adds y).1 (inl ((so_far y).1 (inr (added.0, earlier, added.2))))
          | inr same ↦ (adds y).1 (inr (subst (λ (z : X). Adds z y) (sym same) added.2))
        ]
      ],
    )

-- all of them
all_added : {X Y : Type 0} (Adds : X → Y → Type 0) (xs : List X) (i : ℕ) (Before Now : Y → Type 0) → length xs ≤ i → AreAdded Adds (take i xs) Before Now
    → AreAdded Adds xs Before Now
all_added {X} Adds xs i Before Now past added = subst (λ (ys : List X). AreAdded Adds ys Before Now) (take_all i xs past) added

-- all lookaheads of the items with a core
pub lookaheads_added : {S : Type 0} (index : S → ℕ) (H : ℕ → Type 0) (tokens : List (TIdx S)) (i : ℕ) (Before Now : ℕ → Type 0)
    → ((t : ℕ) → Contains (map (λ (x : TIdx S). index x.0) tokens) t ↔ H t) → length tokens ≤ i
    → AreAdded (λ (x : TIdx S) t. index x.0 ≡ t) (take i tokens) Before Now → (t : ℕ) → Now t ↔ (Before t ⊎ H t)
lookaheads_added {S} index H tokens i Before Now are past so_far t =
    let all = all_added (λ (x : TIdx S) t. index x.0 ≡ t) tokens i Before Now past so_far t in (
      λ h. elim (all.0 h) as (λ _. Before t ⊎ H t) [
        | inl before ↦ inl before
        | inr added ↦ inr ((are t).0 (subst (Contains (map (λ (x : TIdx S). index x.0) tokens)) added.2
            (Contains-image (λ (x : TIdx S). index x.0) tokens added.0 added.1)))
      ],
      λ h. all.1 (elim h as (λ _. Before t ⊎ ((x : TIdx S) × Contains tokens x × (index x.0 ≡ t))) [
        | inl before ↦ inl before
        | inr item ↦ inr (Contains-preimage (λ (x : TIdx S). index x.0) tokens t ((are t).1 item))
      ]),
    )

-- a token that is put into a set
pub token_added : (old new : List Bool) (token t' : ℕ) → token ≡ t' → ((t : ℕ) → has new t ≡ (has old t || t == token))
    → (t : ℕ) → IsTrue (has new t) ↔ (IsTrue (has old t) ⊎ (t' ≡ t))
token_added old new token t' is put t = (
  λ h. elim (or_cases (has old t) (t == token) (sym (put t) ∙ h)) as (λ _. IsTrue (has old t) ⊎ (t' ≡ t)) [
    | inl before ↦ inl before
    | inr now ↦ inr (sym (eqb-true t token now ∙ is))
  ],
  λ h. put t ∙ elim h as (λ _. (has old t || t == token) ≡ true) [
    | inl before ↦ or_left (has old t) (t == token) before
    | inr now ↦ or_right (has old t) (t == token) (eq-eqb t token (sym now ∙ sym is))
  ],
)

-- what holds of all symbols holds of the one at a place
at_place : {X : Type 0} (P : X → Type 0) (xs : List X) (k : ℕ) (x : X) → All P xs → slice_get xs k ≡ Some x → P x
at_place P xs k x all at = subst P (get_or_from_slice_get xs k x x at) (all k x (slice_get_within xs k x at))

-- the token after a dot is one of the grammar
pub token_low : (g : Grammar) → IsWellFormed g → (p k a : ℕ) → p < prods_len g → slice_get (symbols_of g p) k ≡ Some (Terminal a) → a < tokens_len g
token_low g well p k a known at = at_place (IsSymbolBelow (rules_len g) (tokens_len g)) (symbols_of g p) k (Terminal a) (prod_symbols g well p known) at

-- a rule is after the dot in one form exactly if it is in the other
pub rule_at : (g : Grammar) (p k r : ℕ) (w : List GrammarSymbol) → drop k (symbols_of g p) ≡ Nonterminal r ∷ w → slice_get (symbols_of g p) k ≡ Some (Nonterminal r)
rule_at g p k r w further = (at_drop (symbols_of g p) k (Nonterminal r) w further).0

pub no_rule_at : (g : Grammar) (p k : ℕ) → ((r : ℕ) (w : List GrammarSymbol) → drop k (symbols_of g p) ≢ Nonterminal r ∷ w)
    → (r : ℕ) → slice_get (symbols_of g p) k ≢ Some (Nonterminal r)
no_rule_at g p k none r at =
    let within = slice_get_within (symbols_of g p) k (Nonterminal r) at in
    let here = get_or_from_slice_get (symbols_of g p) k (Nonterminal r) (Nonterminal r) at in
    none r (drop (k + 1) (symbols_of g p)) (drop_more (symbols_of g p) k (Nonterminal r) within ∙ ap (λ (x : GrammarSymbol). x ∷ drop (k + 1) (symbols_of g p)) here)

-- an action that is none of the code's shifts is no shift
pub no_shift : {S : Type 0} (index : S → ℕ) (action : Action S) (is : TableAction) → plain_action index action ≡ is → ((next : StIdx S) → action ≢ Shift next)
    → (n : ℕ) → is ≢ ShiftTo n
no_shift index (Shift next) is e none n shifts = none next refl
no_shift index (Reduce p) is e none n shifts = let no : ReduceBy (index p.0) ≡ ShiftTo n = e ∙ shifts in cc
no_shift index Accept is e none n shifts = let no : Accepts ≡ ShiftTo n = e ∙ shifts in cc
no_shift index Error is e none n shifts = let no : Fails ≡ ShiftTo n = e ∙ shifts in cc

-- a test that decides a fact decides an equivalent fact
pub decided_as : {A B : Type 0} (b : Bool) → IsTrue b ↔ A → A ↔ B → IsTrue b ↔ B
decided_as b test same = (λ h. same.0 (test.0 h), λ holds. test.1 (same.1 holds))

-- there are as many sets as productions
pub starts_len : (g : Grammar) (sets : List TokenSet) → HaveStarts g (rows_of sets) → length sets ≡ prods_len g
starts_len g sets room = room.prods

-- the set of a production is one of the list's
pub start_within : (g : Grammar) (sets : List TokenSet) (p prod : ℕ) → HaveStarts g (rows_of sets) → p < prods_len g → prod ≡ p → prod < length sets
start_within g sets p prod room known is = let count = room.prods in omega (arith, count, known, is)

-- so has that of a core of a state
pub start_of_core : {S : Type 0} (index : S → ℕ) (parts : Completeness S) (s : StIdx S) (prod : PIdx S) (dot : ℕ) (starts : List TokenSet) (place : ℕ) → IsTestable parts
    → HasCoreIn index parts s prod dot → HasSetsIn parts starts → place ≡ index prod.0 → place < length starts
start_of_core index parts s prod dot starts place known core room is =
    start_within parts.grm.now starts (index prod.0) place room (core_known index parts s prod dot known core).0 is

-- it is as wide as all sets
pub start_wide : (g : Grammar) (sets : List TokenSet) (prod : ℕ) (d : TokenSet) → HaveStarts g (rows_of sets) → prod < length sets
    → length (get_or sets prod d) ≡ dummy_lookahead g + 1
start_wide g sets prod d room within = room.wide prod d within

-- with a set of the same width in place of one of them, they keep their room
pub starts_room : (g : Grammar) (sets : List TokenSet) (prod : ℕ) (new : TokenSet) → HaveStarts g (rows_of sets) → length new ≡ dummy_lookahead g + 1
    → HaveStarts g (rows_of (set sets prod new))
starts_room g sets prod new room wide =
    subst (HaveStarts g) (sym (rows-set sets prod new)) (record {
      prods = length-set (rows_of sets) prod new ∙ room.prods;
      wide = All-set (λ row. length row ≡ dummy_lookahead g + 1) (rows_of sets) prod new wide room.wide;
    })

-- the sets with another one in place of that of production p: p has the new one, and any other production what it had
set_at : (sets : List TokenSet) (p prod q : ℕ) (d new : TokenSet) → prod < length sets → prod ≡ p
    → ((p ≡ q) × (row_at (rows_of (set sets prod new)) q ≡ new) × ((get_or sets prod d) ≡ row_at (rows_of sets) q))
    ⊎ ((p ≢ q) × (row_at (rows_of (set sets prod new)) q ≡ row_at (rows_of sets) q))
set_at sets p prod q d new within is =
    let rows = rows_of sets in
    let inside : prod < length rows = within in
    let now : row_at (rows_of (set sets prod new)) q ≡ row_at (set rows prod new) q = ap (λ rs. row_at rs q) (rows-set sets prod new) in
    elim (cases_eq q prod) as (λ _. ((p ≡ q) × (row_at (rows_of (set sets prod new)) q ≡ new) × ((get_or sets prod d) ≡ row_at rows q))
    ⊎ ((p ≢ q) × (row_at (rows_of (set sets prod new)) q ≡ row_at rows q))) [
      | inl same ↦ inl (
        sym is ∙ sym same,
        now ∙ ap (row_at (set rows prod new)) same ∙ get_or-set_same rows prod new [] inside,
        row_in sets prod d within ∙ ap (row_at rows) (sym same),
      )
      | inr other ↦ inr (λ same. other (sym (is ∙ same)), now ∙ get_or-set_other rows prod q new [] other)
    ]

-- what is put into the set of production p for a core with dot 0
pub start_put : (sets : List TokenSet) (p prod dot q t : ℕ) (d new : TokenSet) (H : ℕ → ℕ → ℕ → Type 0) → prod < length sets → prod ≡ p → dot ≡ 0
    → ((u : ℕ) → IsTrue (has new u) ↔ (IsTrue (has (get_or sets prod d) u) ⊎ H p dot u))
    → IsTrue (has (row_at (rows_of (set sets prod new)) q) t) ↔ (IsTrue (has (row_at (rows_of sets) q) t) ⊎ ((p ≡ q) × (dot ≡ 0) × H q 0 t))
start_put sets p prod dot q t d new H within is first put =
    let after = row_at (rows_of (set sets prod new)) q in
    let before = row_at (rows_of sets) q in
    elim (set_at sets p prod q d new within is) as (λ _. IsTrue (has after t) ↔ (IsTrue (has before t) ⊎ ((p ≡ q) × (dot ≡ 0) × H q 0 t))) [
      | inl here ↦
          let item : H p dot t ≡ H q 0 t = ap (λ n. H n dot t) here.0 ∙ ap (λ n. H q n t) first in
          let there : IsTrue (has after t) ↔ (IsTrue (has before t) ⊎ H q 0 t) =
          subst (λ bits. IsTrue (has bits t) ↔ (IsTrue (has before t) ⊎ H q 0 t)) (sym here.1)
          (subst (λ bits. IsTrue (has new t) ↔ (IsTrue (has bits t) ⊎ H q 0 t)) here.2
          (subst (λ Put. IsTrue (has new t) ↔ (IsTrue (has (get_or sets prod d) t) ⊎ Put)) item (put t))) in (
            λ h. elim (there.0 h) as (λ _. IsTrue (has before t) ⊎ ((p ≡ q) × (dot ≡ 0) × H q 0 t)) [
              | inl old ↦ inl old
              | inr now ↦ inr (here.0, first, now)
            ],
            λ h. there.1 (elim h as (λ _. IsTrue (has before t) ⊎ H q 0 t) [ inl old ↦ inl old | inr now ↦ inr now.2 ]),
          )
      | inr other ↦
          let kept : has after t ≡ has before t = ap (λ bits. has bits t) other.1 in (
            λ h. inl (sym kept ∙ h),
            λ h. elim h as (λ _. IsTrue (has after t)) [ inl old ↦ kept ∙ old | inr now ↦ absurd (other.0 now.0) ],
          )
    ]

-- for another core nothing is put
pub no_start : (p dot q : ℕ) (P H : Type 0) → dot ≢ 0 → P ↔ (P ⊎ ((p ≡ q) × (dot ≡ 0) × H))
no_start p dot q P H other = (
  λ h. inl h,
  λ h. elim h as (λ _. P) [ inl before ↦ before | inr now ↦ absurd (other now.1) ],
)

-- the set of production p is emptied
pub start_taken : (sets : List TokenSet) (p prod dot q t : ℕ) (new : TokenSet) → prod < length sets → prod ≡ p → ((u : ℕ) → has new u ≡ false)
    → IsTrue (has (row_at (rows_of (set sets prod new)) q) t) → IsTrue (has (row_at (rows_of sets) q) t) × (p ≡ q → dot ≢ 0)
start_taken sets p prod dot q t new within is none h =
    elim (set_at sets p prod q new new within is) as (λ _. IsTrue (has (row_at (rows_of sets) q) t) × (p ≡ q → dot ≢ 0)) [
      | inl here ↦ absurd (false≢true (sym (none t) ∙ sym (ap (λ bits. has bits t) here.1) ∙ h))
      | inr other ↦ (sym (ap (λ bits. has bits t) other.1) ∙ h, λ same. absurd (other.0 same))
    ]

-- a state's item with dot 0 has one of the cores that were read
start_listed : {S : Type 0} (index : S → ℕ) (graph : Graph) (s : ℕ) (cores : List (PIdx S × ℕ)) (q t : ℕ)
    → ((p k : ℕ) → HasCore graph s p k ↔ Contains (map (core_of index) cores) (p, k)) → HasItem graph s q 0 t
    → (core : PIdx S × ℕ) × Contains cores core × (index core.0.0 ≡ q) × (core.1 ≡ 0)
start_listed index graph s cores q t are item =
    let found = Contains-preimage (core_of index) cores (q, 0) ((are q 0).0 (t, item)) in
    (found.0, found.1, ap (λ (core : ℕ × ℕ). core.0) found.2, ap (λ (core : ℕ × ℕ). core.1) found.2)

-- what a core adds to the sets of the productions, if its dot is 0: to that of its production its lookaheads
abbrev pub AddsStarts : {S : Type 0} → (S → ℕ) → Graph → ℕ → PIdx S × ℕ → ℕ × ℕ → Type 0
AddsStarts index graph s core entry = (index core.0.0 ≡ entry.0) × (core.1 ≡ 0) × HasItem graph s entry.0 0 entry.1

-- the production of an entry has its token
abbrev pub HasEntry : List (List Bool) → ℕ × ℕ → Type 0
HasEntry rows entry = IsTrue (has (row_at rows entry.0) entry.1)

-- what all cores of a state add to empty sets are the lookaheads of its items with dot 0
pub starts_added : {S : Type 0} (index : S → ℕ) (graph : Graph) (s : ℕ) (cores : List (PIdx S × ℕ)) (i : ℕ) (empty rows : List (List Bool))
    → ((p k : ℕ) → HasCore graph s p k ↔ Contains (map (core_of index) cores) (p, k)) → length cores ≤ i → ((q t : ℕ) → has (row_at empty q) t ≡ false)
    → AreAdded (AddsStarts index graph s) (take i cores) (HasEntry empty) (HasEntry rows) → AreStartsOf (items_of graph s) rows
starts_added {S} index graph s cores i empty rows are past none so_far q t =
    let all = all_added (AddsStarts index graph s) cores i (HasEntry empty) (HasEntry rows) past so_far (q, t) in (
      λ h. elim (all.0 h) as (λ _. HasItem graph s q 0 t) [
        | inl before ↦ absurd (false≢true (sym (none q t) ∙ before))
        | inr added ↦ added.2.2
      ],
      λ item. let core = start_listed index graph s cores q t are item in all.1 (inr (core.0, core.1, (core.2, core.3, item))),
    )

-- the sets have nothing new, and nothing of the first i cores with dot 0
abbrev pub AreLeft : {S : Type 0} → (S → ℕ) → List (PIdx S × ℕ) → ℕ → List (List Bool) → List (List Bool) → Type 0
AreLeft {S} index cores i before rows =
    (q t : ℕ) → IsTrue (has (row_at rows q) t) → IsTrue (has (row_at before q) t)
    × ((n : ℕ) (d : PIdx S × ℕ) → n < i → index (get_or cores n d).0.0 ≡ q → (get_or cores n d).1 ≢ 0)

-- one core more
pub fewer_left : {S : Type 0} (index : S → ℕ) (cores : List (PIdx S × ℕ)) (i : ℕ) (core : PIdx S × ℕ) (before old new : List (List Bool))
    → i < length cores → core ≡ get_or cores i core
    → ((q t : ℕ) → IsTrue (has (row_at new q) t) → IsTrue (has (row_at old q) t) × (index core.0.0 ≡ q → core.1 ≢ 0))
    → AreLeft index cores i before old → AreLeft index cores (i + 1) before new
fewer_left {S} index cores i core before old new within is taken so_far q t h =
    let left = so_far q t (taken q t h).0 in
    (left.0, each_more (λ (x : PIdx S × ℕ). index x.0.0 ≡ q → x.1 ≢ 0) cores i core within is (taken q t h).1 left.1)

-- with all cores of the state, nothing is left of the lookaheads of its items with dot 0
pub none_left : {S : Type 0} (index : S → ℕ) (graph : Graph) (s : ℕ) (cores : List (PIdx S × ℕ)) (i : ℕ) (before rows : List (List Bool))
    → ((p k : ℕ) → HasCore graph s p k ↔ Contains (map (core_of index) cores) (p, k)) → length cores ≤ i → AreStartsOf (items_of graph s) before
    → AreLeft index cores i before rows → (q t : ℕ) → has (row_at rows q) t ≡ false
none_left {S} index graph s cores i before rows are past starts left q t =
    false_from_ne_true (has (row_at rows q) t) (λ h.
    let here = left q t h in
    let core = start_listed index graph s cores q t are ((starts q t).0 here.0) in
    let none : All (λ (x : PIdx S × ℕ). index x.0.0 ≡ q → x.1 ≢ 0) cores = λ n d below. here.1 n d (omega (arith, past, below)) in
    All-contains (λ (x : PIdx S × ℕ). index x.0.0 ≡ q → x.1 ≢ 0) cores core.0 none core.1 core.2 core.3)

-- the productions of a rule, as numbers of the code, are of the grammar
pub of_rule_known : {S : Type 0} (index : S → ℕ) (g : Grammar) (r : ℕ) (prods : List (PIdx S)) (i : ℕ) (pidx : PIdx S) → map (λ p. index p.0) prods ≡ prods_of g r
    → i < length prods → pidx ≡ get_or prods i pidx → index pidx.0 < prods_len g
of_rule_known {S} index g r prods i pidx are within is =
    let known = (each_of_rule g r (λ q. q < prods_len g)).1 (λ q h by. h) in
    let all = subst (λ (qs : List ℕ). All (λ q. q < prods_len g) qs) (sym are) known in
    subst (λ (x : PIdx S). index x.0 < prods_len g) (sym is) (All-map-at (λ q. q < prods_len g) (λ (x : PIdx S). index x.0) prods all i pidx within)

-- and it has a set
pub start_of_rule : {S : Type 0} (index : S → ℕ) (g : Grammar) (r : ℕ) (prods : List (PIdx S)) (i : ℕ) (pidx : PIdx S) (starts : List TokenSet) (place : ℕ)
    → map (λ p. index p.0) prods ≡ prods_of g r → i < length prods → pidx ≡ get_or prods i pidx → HaveStarts g (rows_of starts) → place ≡ index pidx.0 → place < length starts
start_of_rule index g r prods i pidx starts place are within read room is =
    start_within g starts (index pidx.0) place room (of_rule_known index g r prods i pidx are within read) is

-- which is its row
pub row_of_rule : {S : Type 0} (index : S → ℕ) (g : Grammar) (r : ℕ) (prods : List (PIdx S)) (i : ℕ) (pidx : PIdx S) (starts : List TokenSet) (place : ℕ) (set : TokenSet)
    → map (λ p. index p.0) prods ≡ prods_of g r → i < length prods → pidx ≡ get_or prods i pidx → HaveStarts g (rows_of starts) → place ≡ index pidx.0
    → set ≡ get_or starts place set → row_at (rows_of starts) (index pidx.0) ≡ set
row_of_rule index g r prods i pidx starts place set are within read room is at =
    ap (row_at (rows_of starts)) (sym is) ∙ row_is starts place set (start_of_rule index g r prods i pidx starts place are within read room is) at

-- a condition is in the list at the place one less than its number
pub listed_at : (condition : CompletenessCondition) → get_or ALL (condition_number condition - 1) condition ≡ condition
listed_at C1 = refl
listed_at C2 = refl
listed_at C3 = refl
listed_at C4 = refl
listed_at C5 = refl

-- and the condition at a place has the number one more
number_at : (k : ℕ) (d : CompletenessCondition) → k < length ALL → condition_number (get_or ALL k d) ≡ k + 1
number_at zero d low = refl
number_at (suc zero) d low = refl
number_at (suc (suc zero)) d low = refl
number_at (suc (suc (suc zero))) d low = refl
number_at (suc (suc (suc (suc zero)))) d low = refl
number_at (suc (suc (suc (suc (suc k))))) d low = absurd (omega (arith, low))

-- numbers begin with 1
some_number : (condition : CompletenessCondition) → 0 < condition_number condition
some_number C1 = omega arith
some_number C2 = omega arith
some_number C3 = omega arith
some_number C4 = omega arith
some_number C5 = omega arith

-- a condition with a lower number than the one at a place is at an earlier place
pub earlier_listed : (earlier : CompletenessCondition) (k : ℕ) (d : CompletenessCondition) → k < length ALL
    → condition_number earlier < condition_number (get_or ALL k d) → condition_number earlier - 1 < k
earlier_listed earlier k d within lower =
    let some = some_number earlier in
    let at = number_at k d within in
    omega (arith, lower, some, at)
