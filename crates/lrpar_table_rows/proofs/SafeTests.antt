-- Tests that compute whether a table is safe.
use Rattle.std.proofs.Common.{◌≡◌, ◌<◌, ◌∙◌, inl, inr, refl, sym, ap, subst, arith, add-one, ℕ, zero, suc, Bool, true, false, cond, not, ◌&&◌, nat_eq, nat_lt, nat_le, List, Option, Some, None, slice_get}
use Rattle.std.proofs.lemmas.Bool.{and_parts, both_ways, cases_eq, cases_lt, cond-false, cond-true, eq-eqb, eqb-true, leb-true, ltb-true, ne_eqb, not-true}
use Rattle.std.proofs.lemmas.List.Sums.{AllPass-from_list_all}
use Rattle.std.proofs.lemmas.Map.Views.{Contains-from_lookup}
use Rattle.std.specs.List.{Contains, list_all, list_any}
use Rattle.std.specs.Option.{is_some}
use Rattle.lrpar_grammar.specs.Grammar.{Grammar, GrammarSymbol, Nonterminal, Terminal, end_token, prod_len, prods_len, rule_of, rules_len, start_prod, symbols_of, tokens_len}
use Rattle.lrpar_table_rows.specs.Graph.{Graph, HasCore, HasItem, ItemOf, graph_len, item_at, items_of}
use Rattle.lrpar_table_rows.specs.Safe.{AcceptsOnlyAtEnd, CoresFollow, GoesBy, GoesByRules, IsItem, IsSafe, IsSafeAt, NeverShiftsEnd, NeverEntersStart, ReducesComplete, StepsFromCores}
use Rattle.lrpar_table_rows.specs.Table.{Accepts, Fails, IsTable, ReduceBy, ShiftTo, Table, TableAction, action_of, actions_at, goto_of, gotos_at, states_len}
use Rattle.lrpar_table_rows.specs.declared.condition.SafetyCondition.{SafetyCondition}
use Rattle.lrpar_table_rows.specs.declared.condition.SafetyCondition.TheVariants.{S2, S3, S4, S5, S6, S7, S8}
use Rattle.lrpar_table_rows.proofs.EntryLemmas.{action_cases, no_action_after}
use Rattle.lrpar_table_rows.proofs.GraphLemmas.{core_by_test, is_with_core, state_in_range}

-- the test holds of each number below n
abbrev pub all_below : (ℕ → Bool) → ℕ → Bool
all_below p zero = true
all_below p (suc n) = p n && all_below p n

pub all_below_at : (p : ℕ → Bool) (n : ℕ) → all_below p n ≡ true → (k : ℕ) → k < n → p k ≡ true
all_below_at p zero h k below = absurd (omega arith)
all_below_at p (suc n) h k below =
    let parts = and_parts (p n) (all_below p n) h in
    elim (cases_eq k n) as (λ _. p k ≡ true) [
      | inl same ↦ ap p same ∙ parts.0
      | inr other ↦ all_below_at p n parts.1 k (omega (arith, other))
    ]

-- a test that holds of all elements holds of each
passes : {X : Type 0} (p : X → Bool) (xs : List X) (x : X) → list_all p xs ≡ true → Contains xs x → p x ≡ true
passes p xs x h there = subst (λ y. p y ≡ true) there.2 (AllPass-from_list_all p xs h there.0 x there.1)

-- the option has this symbol
abbrev is_symbol : GrammarSymbol → Option GrammarSymbol → Bool
is_symbol (Terminal t) (Some (Terminal u)) = nat_eq u t
is_symbol (Nonterminal r) (Some (Nonterminal q)) = nat_eq q r
is_symbol x found = false

symbol_found : (x : GrammarSymbol) (found : Option GrammarSymbol) → is_symbol x found ≡ true → found ≡ Some x
symbol_found (Terminal t) (Some (Terminal u)) h = ap (λ (n : ℕ). Some (Terminal n)) (eqb-true u t h)
symbol_found (Terminal t) (Some (Nonterminal q)) h = absurd (both_ways _ refl h)
symbol_found (Terminal t) None h = absurd (both_ways _ refl h)
symbol_found (Nonterminal r) (Some (Terminal u)) h = absurd (both_ways _ refl h)
symbol_found (Nonterminal r) (Some (Nonterminal q)) h = ap (λ (n : ℕ). Some (Nonterminal n)) (eqb-true q r h)
symbol_found (Nonterminal r) None h = absurd (both_ways _ refl h)

-- the value of an option that isn't empty
some_found : (found : Option ℕ) → is_some found ≡ true → (next : ℕ) × (found ≡ Some next)
some_found (Some next) h = (next, refl)
some_found None h = absurd (both_ways _ refl h)

-- the state has the core
abbrev has_core : Graph → ℕ → ℕ → ℕ → Bool
has_core graph s p k = list_any (is_with_core p k) (items_of graph s)

-- the core comes from one of state s by x, if its dot is past 0
abbrev core_follows : Grammar → Graph → ℕ → GrammarSymbol → ℕ → ℕ → Bool
core_follows g graph s x p zero = true
core_follows g graph s x p (suc k) = is_symbol x (slice_get (symbols_of g p) k) && has_core graph s p k

-- so do all cores of state next
abbrev cores_follow : Grammar → Graph → ℕ → GrammarSymbol → ℕ → Bool
cores_follow g graph s x next = list_all (λ i. core_follows g graph s x i.prod i.dot) (items_of graph next)

-- whether an action meets the conditions
abbrev action_passes : Grammar → Graph → Table → ℕ → ℕ → TableAction → Bool
action_passes g graph table s t (ShiftTo next) =
    not (nat_eq t (end_token g)) && (cores_follow g graph s (Terminal t) next && not (nat_eq next table.start))
action_passes g graph table s t (ReduceBy p) =
    nat_lt p (prods_len g) && (not (nat_eq p (start_prod g)) && has_core graph s p (prod_len g p))
action_passes g graph table s t Accepts = nat_eq t (end_token g) && has_core graph s (start_prod g) 1
action_passes g graph table s t Fails = true

-- whether a goto meets the conditions
abbrev goto_passes : Grammar → Graph → Table → ℕ → ℕ → ℕ → Bool
goto_passes g graph table s r next = cores_follow g graph s (Nonterminal r) next && not (nat_eq next table.start)

-- whether a core meets the conditions
abbrev core_passes : Grammar → Table → ℕ → ℕ → ℕ → Bool
core_passes g table s p zero = cond (nat_eq p (start_prod g)) (nat_eq s table.start) (is_some (goto_of table s (rule_of g p)))
core_passes g table s p (suc k) = not (nat_eq s table.start)

-- an item is of the grammar
abbrev item_passes : Grammar → ItemOf → Bool
item_passes g i = nat_lt i.prod (prods_len g) && (nat_le i.dot (prod_len g i.prod) && nat_lt i.token (tokens_len g))

-- all actions, gotos, cores and items of a state pass
abbrev pub state_passes : Grammar → Graph → Table → ℕ → Bool
state_passes g graph table s =
    (list_all (λ e. action_passes g graph table s e.0 e.1) (actions_at table s) && list_all (λ e. goto_passes g graph table s e.0 e.1) (gotos_at table s))
    && (list_all (λ i. core_passes g table s i.prod i.dot) (items_of graph s) && list_all (item_passes g) (items_of graph s))

module _ (g : Grammar) (graph : Graph) (table : Table) where
  has_core_at : (s p k : ℕ) → has_core graph s p k ≡ true → HasCore graph s p k
  has_core_at s p k h = (core_by_test (items_of graph s) p k).0 h

  follow_at : (s : ℕ) (x : GrammarSymbol) (next : ℕ) → cores_follow g graph s x next ≡ true → CoresFollow g graph s x next
  follow_at s x next h p k has =
      let item = rw add-one at has.1 in
      let parts = and_parts _ _ (passes (λ (i : ItemOf). core_follows g graph s x i.prod i.dot) (items_of graph next) (item_at p (suc k) has.0) h item) in
      (symbol_found x (slice_get (symbols_of g p) k) parts.0, has_core_at s p k parts.1)

  -- a state that passes
  module _ (s : ℕ) (h : state_passes g graph table s ≡ true) where
    action_at : (t : ℕ) (action : TableAction) → action_of table s t ≡ action → action_passes g graph table s t action ≡ true
    action_at t action at =
        let all = (and_parts _ _ (and_parts _ _ h).0).0 in
        let P : TableAction → Type 0 = λ a. action_passes g graph table s t a ≡ true in
        elim (action_cases table s t) as (λ _. action_passes g graph table s t action ≡ true) [
          | inl none ↦ subst P (sym none ∙ at) refl
          | inr found ↦
              subst P (sym found.2 ∙ at)
              (passes (λ (e : ℕ × TableAction). action_passes g graph table s e.0 e.1) (actions_at table s) (t, found.0) all found.1)
        ]

    goto_at : (r next : ℕ) → goto_of table s r ≡ Some next → goto_passes g graph table s r next ≡ true
    unfolding goto_of
    goto_at r next at =
        passes (λ (e : ℕ × ℕ). goto_passes g graph table s e.0 e.1) (gotos_at table s) (r, next) (and_parts _ _ (and_parts _ _ h).0).1
        (Contains-from_lookup eqb-true r next (gotos_at table s) at)

    core_at : (p k : ℕ) → HasCore graph s p k → core_passes g table s p k ≡ true
    core_at p k has =
        passes (λ (i : ItemOf). core_passes g table s i.prod i.dot) (items_of graph s) (item_at p k has.0) (and_parts _ _ (and_parts _ _ h).1).0 has.1

    item_found : (p k t : ℕ) → HasItem graph s p k t → IsItem g p k t
    item_found p k t has =
        let parts = and_parts _ _ (passes (item_passes g) (items_of graph s) (item_at p k t) (and_parts _ _ (and_parts _ _ h).1).1 has) in
        let rest = and_parts _ _ parts.1 in
        record { prod = ltb-true _ _ parts.0; dot = leb-true _ _ rest.0; token = ltb-true _ _ rest.1 }

    fresh : s ≡ table.start → (p k : ℕ) → core_passes g table s p k ≡ true → k ≡ 0
    fresh here p zero pass = refl
    fresh here p (suc k) pass = absurd (both_ways _ (not-true _ pass) (eq-eqb s table.start here))

    never_shifts_end : NeverShiftsEnd g table s
    never_shifts_end next at =
        both_ways _ (not-true _ (and_parts _ _ (action_at (end_token g) (ShiftTo next) at)).0) (eq-eqb (end_token g) (end_token g) refl)

    steps : StepsFromCores g graph table s
    steps (Terminal t) next goes = follow_at s (Terminal t) next (and_parts _ _ (and_parts _ _ (action_at t (ShiftTo next) goes)).1).0
    steps (Nonterminal r) next goes = follow_at s (Nonterminal r) next (and_parts _ _ (goto_at r next goes)).0

    complete : ReducesComplete g graph table s
    complete t p at =
        let parts = and_parts _ _ (and_parts _ _ (action_at t (ReduceBy p) at)).1 in
        (λ same. both_ways _ (not-true _ parts.0) (eq-eqb p (start_prod g) same), has_core_at s p (prod_len g p) parts.1)

    goes : GoesByRules g graph table s
    goes p has other =
        some_found (goto_of table s (rule_of g p))
        (sym (cond-false (nat_eq p (start_prod g)) _ _ (ne_eqb p (start_prod g) other)) ∙ core_at p 0 has)

    accepts : AcceptsOnlyAtEnd g graph table s
    accepts t at =
        let parts = and_parts _ _ (action_at t Accepts at) in (eqb-true t (end_token g) parts.0, has_core_at s (start_prod g) 1 parts.1)

    never : (x : GrammarSymbol) → ¬ (GoesBy table s x table.start)
    never (Terminal t) goes =
        both_ways _ (not-true _ (and_parts _ _ (and_parts _ _ (action_at t (ShiftTo table.start) goes)).1).1) (eq-eqb table.start table.start refl)
    never (Nonterminal r) goes = both_ways _ (not-true _ (and_parts _ _ (goto_at r table.start goes)).1) (eq-eqb table.start table.start refl)

    leaves : NeverEntersStart g graph table s
    leaves = record {
      never_back = never;
      first_core = λ has.
          eqb-true s table.start
          (sym (cond-true (nat_eq (start_prod g) (start_prod g)) _ _ (eq-eqb (start_prod g) (start_prod g) refl)) ∙ core_at (start_prod g) 0 has);
    }

    safe_at : (condition : SafetyCondition) → IsSafeAt g graph table condition s
    safe_at S2 = λ here p k has. fresh here p k (core_at p k has)
    safe_at S3 = never_shifts_end
    safe_at S4 = steps
    safe_at S5 = complete
    safe_at S6 = goes
    safe_at S7 = accepts
    safe_at S8 = leaves

-- a table whose states pass is safe
pub safe_by_test : (limit : ℕ) (g : Grammar) (graph : Graph) (table : Table) → IsTable limit table → graph_len graph ≡ states_len table
    → table.tokens ≡ tokens_len g → table.rules ≡ rules_len g → all_below (state_passes g graph table) (states_len table) ≡ true
    → IsSafe g graph table
safe_by_test limit g graph table is states tokens rules h =
    let at : (s : ℕ) → s < states_len table → state_passes g graph table s ≡ true = all_below_at (state_passes g graph table) (states_len table) h in
    let start = is.start_within in
    record {
      shape = record {
        states = states;
        some = omega (arith, start);
        tokens = tokens;
        rules = rules;
        reduces = λ s t p by.
            elim (cases_lt s (states_len table)) as (λ _. p < prods_len g) [
              | inl below ↦ ltb-true _ _ (and_parts _ _ (action_at g graph table s (at s below) t (ReduceBy p) by)).0
              | inr past ↦ let other : Fails ≡ ReduceBy p = sym (no_action_after limit table is s t past) ∙ by in absurd (cc)
            ];
        items = λ s p k t has.
            item_found g graph table s (at s (subst (λ (n : ℕ). s < n) states (state_in_range graph s p k t has))) p k t has;
      };
      each = λ condition s below. safe_at g graph table s (at s below) condition;
    }
