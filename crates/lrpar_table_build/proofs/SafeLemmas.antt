-- A table of the canonical collection is safe. Each action of the table is one that its set calls for; and the items of a set follow
-- from how gotos reach it.
use Rattle.std.proofs.Common.{◌≡◌, ◌<◌, ◌≤◌, ◌+◌, ◌∙◌, refl, sym, ap, subst, inl, inr, arith, ℕ, List, [], None, Some, slice_get}
use Rattle.std.proofs.lemmas.Bool.{cases_lt}
use Rattle.lrpar_grammar.proofs.PartsLemmas.{rule_of_within}
use Rattle.lrpar_grammar.specs.Grammar.{Grammar, GrammarSymbol, IsWellFormed, Nonterminal, Terminal, end_token, prod_len, rule_of, rules_len, start_prod, symbols_of, tokens_len}
use Rattle.lrpar_table_precedence.specs.Precedence.{PrecedenceLists}
use Rattle.lrpar_table_rows.specs.Graph.{Graph, HasCore, HasItem, ItemOf, graph_len, item_at}
use Rattle.lrpar_table_rows.specs.Safe.{GoesBy, IsSafe, IsSafeAt}
use Rattle.lrpar_table_rows.specs.Table.{Accepts, Fails, ReduceBy, ShiftTo, Table, action_of, goto_of, states_len}
use Rattle.lrpar_table_rows.specs.declared.condition.SafetyCondition.{SafetyCondition}
use Rattle.lrpar_table_rows.specs.declared.condition.SafetyCondition.TheVariants.{S2, S3, S4, S5, S6, S7, S8}
use Rattle.lrpar_table_rows.proofs.GraphLemmas.{state_in_range}
use Rattle.lrpar_table_build.specs.BuilderLaws.{CanonicalTablesAreSafe, IsCanonicalTable, IsCanonicalTableBy, TablesByPrecedenceAreSafe}
use Rattle.lrpar_table_items.specs.Canonical.{AreSame, GoesAsItems, IsCanonical, LeadsTo, HasAfterDot, HasAccept, HasReduce, sets_of}
use Rattle.lrpar_table_items.specs.ItemSets.{IsAdvanced, IsInNext, IsReachedBy, Own}
use Rattle.lrpar_table_build.proofs.DecidedLemmas.{Accepting, Failing, IsActing, Reducing, Shifting, acting, acting_by, before_decided}
use Rattle.lrpar_table_build.proofs.ReachedLemmas.{added_is_listed, closure_cases, comes_with_rule, no_end_token, reached_at_end, reached_items, start_is_fresh, start_item_at_start}

-- a kernel item of a goto of a set, whose dot isn't at the start, is an item of the set, advanced by one
pub advanced_from : (g : Grammar) (items : ItemOf → Type 0) (x : GrammarSymbol) (p k t : ℕ) → IsInNext g items x (item_at p (k + 1) t)
    → (slice_get (symbols_of g p) k ≡ Some x) × items (item_at p k t)
advanced_from g items x p k t h =
    elim (closure_cases g (IsAdvanced g items x) (item_at p (k + 1) t) h) [
      | inl own ↦
          let from = own.0 in
          let prod : from.prod ≡ p = sym (ap (λ y. y.prod) own.3) in
          let dot : from.dot ≡ k = let moved = ap (λ y. y.dot) own.3 in omega (arith, moved) in
          let token : from.token ≡ t = sym (ap (λ y. y.token) own.3) in
          let is : item_at from.prod from.dot from.token ≡ item_at p k t = cc in (
            subst (λ (y : ItemOf). slice_get (symbols_of g y.prod) y.dot ≡ Some x) is own.2,
            subst items is own.1,
          )
      | inr more ↦ let front : k + 1 ≡ 0 = more.2.fresh in absurd (omega (arith, front))
    ]

-- the table has a state for each set of the graph, and starts in number 0; each of its actions is one that its set calls for, or an error;
-- and it has the gotos of its sets
record IsJustified (g : Grammar) (graph : Graph) (table : Table) : Type 0 where
  pub states : graph_len graph ≡ states_len table
  pub start : table.start ≡ 0
  pub tokens : table.tokens ≡ tokens_len g
  pub rules : table.rules ≡ rules_len g
  pub acts : (s t : ℕ) → IsActing g graph s table t
  pub goes : (s r : ℕ) → s < states_len table → r < rules_len g → GoesAsItems g (sets_of graph) table s r
  pub no_rule : (s r : ℕ) → table.rules ≤ r → goto_of table s r ≡ None

-- in range, the table's action is one of the set's; out of range, it is an error
in_range : (g : Grammar) (graph : Graph) (table : Table) → table.tokens ≡ tokens_len g
    → ((s t : ℕ) → states_len table ≤ s → action_of table s t ≡ Fails) → ((s t : ℕ) → table.tokens ≤ t → action_of table s t ≡ Fails)
    → ((s t : ℕ) → s < states_len table → t < tokens_len g → IsActing g graph s table t) → (s t : ℕ) → IsActing g graph s table t
in_range g graph table tokens no_state no_token acts s t =
    elim (cases_lt s (states_len table)) [
      | inr past ↦ Failing (no_state s t past)
      | inl within ↦
          elim (cases_lt t (tokens_len g)) [
            | inr past ↦ Failing (no_token s t (omega (arith, past, tokens)))
            | inl below ↦ acts s t within below
          ]
    ]

justified : (g : Grammar) (graph : Graph) (table : Table) → IsCanonicalTable g graph table → IsJustified g graph table
justified g graph table is = record {
  states = is.states;
  start = is.start;
  tokens = is.tokens;
  rules = is.rules;
  acts = in_range g graph table is.tokens is.no_state is.no_token (λ s t within below. acting g graph s table t (is.acts s t within below));
  goes = is.goes;
  no_rule = is.no_rule;
}

justified_by : (g : Grammar) (precedences : PrecedenceLists) (graph : Graph) (table : Table) → IsCanonicalTableBy g precedences graph table
    → IsJustified g graph table
justified_by g precedences graph table is = record {
  states = is.states;
  start = is.start;
  tokens = is.tokens;
  rules = is.rules;
  acts = in_range g graph table is.tokens is.no_state is.no_token
      (λ s t within below. acting_by g graph s table t precedences (is.acts s t within below));
  goes = is.goes;
  no_rule = is.no_rule;
}

module _ (g : Grammar) (graph : Graph) (table : Table) (well : IsWellFormed g) (canonical : IsCanonical g graph)
    (resolved : IsJustified g graph table) where
  -- a path reaches each state
  reached_by : (s p k t : ℕ) → HasItem graph s p k t → (path : List GrammarSymbol) × IsReachedBy g path (item_at p k t)
  reached_by s p k t has =
      let reached = canonical.reached s (state_in_range graph s p k t has) in
      (reached.0, (reached.1 (item_at p k t)).0 has)

  -- state 0 has the start item
  start_there : HasItem graph 0 (start_prod g) 0 (end_token g)
  start_there = (canonical.start (item_at (start_prod g) 0 (end_token g))).1 (Own (item_at (start_prod g) 0 (end_token g)) refl)

  shift_of_item : (s t next : ℕ) → action_of table s t ≡ ShiftTo next
      → HasAfterDot g (sets_of graph) s (Terminal t) × LeadsTo g (sets_of graph) s (Terminal t) next
  shift_of_item s t next at =
      elim (resolved.acts s t) [
        | Shifting to is before leads ↦
            let same : to ≡ next = cc in (before, subst (λ (n : ℕ). LeadsTo g (sets_of graph) s (Terminal t) n) same leads)
        | Reducing p is candidate ↦ absurd (cc)
        | Accepting is candidate ↦ absurd (cc)
        | Failing is ↦ absurd (cc)
      ]

  reduction_of_item : (s t p : ℕ) → action_of table s t ≡ ReduceBy p → HasReduce g (sets_of graph) s t p
  reduction_of_item s t p at =
      elim (resolved.acts s t) [
        | Shifting to is before leads ↦ absurd (cc)
        | Reducing by is candidate ↦ let same : by ≡ p = cc in subst (λ (n : ℕ). HasReduce g (sets_of graph) s t n) same candidate.0
        | Accepting is candidate ↦ absurd (cc)
        | Failing is ↦ absurd (cc)
      ]

  accept_of_item : (s t : ℕ) → action_of table s t ≡ Accepts → HasAccept g (sets_of graph) s t
  accept_of_item s t at =
      elim (resolved.acts s t) [
        | Shifting to is before leads ↦ absurd (cc)
        | Reducing by is candidate ↦ absurd (cc)
        | Accepting is candidate ↦ candidate
        | Failing is ↦ absurd (cc)
      ]

  -- so is the goto by a rule
  goto_of_item : (s r next : ℕ) → s < states_len table → goto_of table s r ≡ Some next → LeadsTo g (sets_of graph) s (Nonterminal r) next
  goto_of_item s r next within at =
      elim (cases_lt r (rules_len g)) [
        | inr past ↦
            let is = resolved.rules in
            let none : goto_of table s r ≡ None = resolved.no_rule s r (omega (arith, past, is)) in absurd (cc)
        | inl below ↦
            let goes = resolved.goes s r within below in
            elim (before_decided g graph s (Nonterminal r)) [
              | inl before ↦
                  let to = goes.goes before in
                  let there : goto_of table s r ≡ Some to.0 = to.1 in
                  let same : to.0 ≡ next = cc in subst (λ (n : ℕ). LeadsTo g (sets_of graph) s (Nonterminal r) n) same to.2
              | inr none ↦ let stays : goto_of table s r ≡ None = goes.stays none in absurd (cc)
            ]
      ]

  leads_by : (s : ℕ) (x : GrammarSymbol) (next : ℕ) → s < states_len table → GoesBy table s x next → LeadsTo g (sets_of graph) s x next
  leads_by s (Terminal t) next within goes = (shift_of_item s t next goes).1
  leads_by s (Nonterminal r) next within goes = goto_of_item s r next within goes

  -- no goto is the set of the start state
  never_to_start : (s : ℕ) (x : GrammarSymbol) → LeadsTo g (sets_of graph) s x 0 → ⊥
  never_to_start s x leads =
      let start = item_at (start_prod g) 0 (end_token g) in
      elim (closure_cases g (IsAdvanced g (sets_of graph s) x) start ((leads start).0 start_there)) [
        | inl own ↦ let moved : 0 ≡ own.0.dot + 1 = ap (λ y. y.dot) own.3 in omega (arith, moved)
        | inr more ↦ added_is_listed g well more.0 start more.2 refl
      ]

  -- the core `^: . S` is in state 0 alone
  start_alone : (s : ℕ) → HasCore graph s (start_prod g) 0 → s ≡ 0
  start_alone s has =
      let item = item_at (start_prod g) 0 has.0 in
      let within = state_in_range graph s (start_prod g) 0 has.0 has.1 in
      let reached = canonical.reached s within in
      let at_start : reached.0 ≡ [] = start_item_at_start g well reached.0 item ((reached.1 item).0 has.1) refl refl in
      let by_path = λ (x : ItemOf) (path : List GrammarSymbol). IsReachedBy g path x in
      let same : AreSame (sets_of graph s) (sets_of graph 0) = λ x. (
        λ h. (canonical.start x).1 (subst (by_path x) at_start ((reached.1 x).0 h)),
        λ h. (reached.1 x).1 (subst (by_path x) (sym at_start) ((canonical.start x).0 h)),
      ) in
      canonical.once s 0 within (state_in_range graph 0 (start_prod g) 0 (end_token g) start_there) same

  safe_at : (condition : SafetyCondition) (s : ℕ) → s < states_len table → IsSafeAt g graph table condition s
  safe_at S2 s within = λ here p k has.
      let zero : s ≡ 0 = here ∙ resolved.start in
      let item = item_at p k has.0 in
      start_is_fresh g well item ((canonical.start item).0 (subst (λ (n : ℕ). HasItem graph n p k has.0) zero has.1))
  safe_at S3 s within = λ next at.
      let before = (shift_of_item s (end_token g) next at).0 in no_end_token g well before.0.prod before.0.dot (end_token g) refl before.2
  safe_at S4 s within = λ x next goes p k has.
      let item = (leads_by s x next within goes (item_at p (k + 1) has.0)).0 has.1 in
      let from = advanced_from g (sets_of graph s) x p k has.0 item in (from.0, (has.0, from.1))
  safe_at S5 s within = λ t p at. let candidate = reduction_of_item s t p at in (candidate.0, (t, candidate.1))
  safe_at S6 s within = λ p has listed.
      let item = item_at p 0 has.0 in
      let reached = canonical.reached s (state_in_range graph s p 0 has.0 has.1) in
      let here = (reached.1 item).0 has.1 in
      let from = comes_with_rule g well reached.0 item here refl listed in
      let before : HasAfterDot g (sets_of graph) s (Nonterminal (rule_of g p)) = (from.0, (reached.1 from.0).1 from.1, from.2) in
      let known = (reached_items g well reached.0 item here).prod in
      let goes = (resolved.goes s (rule_of g p) within (rule_of_within g p well known)).goes before in (goes.0, goes.1)
  safe_at S7 s within = λ t at.
      let candidate = accept_of_item s t at in
      let reached = reached_by s (start_prod g) 1 t candidate in
      (reached_at_end g well reached.0 (item_at (start_prod g) 1 t) reached.1 refl, (t, candidate))
  safe_at S8 s within = record {
    never_back = λ x goes.
        never_to_start s x (subst (λ (n : ℕ). LeadsTo g (sets_of graph) s x n) resolved.start (leads_by s x table.start within goes));
    first_core = λ has. start_alone s has ∙ sym resolved.start;
  }

  safe : IsSafe g graph table
  safe = record {
    shape = record {
      states = resolved.states;
      some =
          let first = state_in_range graph 0 (start_prod g) 0 (end_token g) start_there in
          let is = resolved.states in omega (arith, first, is);
      tokens = resolved.tokens;
      rules = resolved.rules;
      reduces = λ s t p at.
          let candidate = reduction_of_item s t p at in
          let reached = reached_by s p (prod_len g p) t candidate.1 in
          (reached_items g well reached.0 (item_at p (prod_len g p) t) reached.1).prod;
      items = λ s p k t has. let reached = reached_by s p k t has in reached_items g well reached.0 (item_at p k t) reached.1;
    };
    each = safe_at;
  }

pub canonical_tables_are_safe : CanonicalTablesAreSafe
canonical_tables_are_safe g graph table well canonical resolved = safe g graph table well canonical (justified g graph table resolved)

-- and so is one by precedences
pub tables_by_precedence_are_safe : TablesByPrecedenceAreSafe
tables_by_precedence_are_safe g precedences graph table well canonical resolved =
    safe g graph table well canonical (justified_by g precedences graph table resolved)
