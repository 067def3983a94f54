-- Why precedences keep productions apart. Let p be `R: u R`, and q `R: R b v`. Where the closure adds `R: . u R  {t}`, it adds
-- `R: . R b v  {t}` too, and for that `R: . u R  {b}`. So a set with `R: u R .  {t}` has `R: u R .  {b}`. And where a set has
-- `R: u . R  {b}`, it has `R: . R b v  {b}` too, so its goto by R has `R: R . b v  {b}` beside `R: u R .  {b}`. So where p is complete at
-- b, and b can be shifted, precedences decide between the two.
use Rattle.std.proofs.Common.{◌≡◌, ◌≢◌, ◌<◌, ◌+◌, ◌∙◌, refl, sym, ap, subst, inl, inr, arith, ℕ, zero, suc, List, [], ◌∷◌, drop, length, Option, Some, None, slice_get}
use Rattle.std.specs.List.{Contains}
use Rattle.std.proofs.lemmas.Bool.{cases_eq, cases_lt}
use Rattle.lrpar_grammar.specs.Grammar.{Grammar, GrammarSymbol, IsWellFormed, Nonterminal, Terminal, end_token, prod_len, prods_len, rule_of, start_prod, symbols_of, tokens_len}
use Rattle.lrpar_table_first.specs.First.{Empty, Token}
use Rattle.lrpar_table_precedence.specs.Precedence.{PrecedenceLists, resolution_of}
use Rattle.lrpar_table_precedence.specs.declared.precedence.Resolution.{Resolution}
use Rattle.lrpar_table_precedence.specs.declared.precedence.Resolution.TheVariants.{Shift, Reduce, Error}
use Rattle.lrpar_table_rows.specs.Graph.{Graph, ItemOf, graph_len, item_at}
use Rattle.lrpar_table_rows.specs.Table.{Fails, ReduceBy, ReduceReduce, ShiftTo, Table, action_of, states_len}
use Rattle.lrpar_table_rows.proofs.GraphLemmas.{state_in_range}
use Rattle.lrpar_table_items.specs.Canonical.{HasAfterDot, HasFirstReduce, HasReduce, sets_of}
use Rattle.lrpar_table_items.specs.ItemSets.{Added, Adds, IsAdvanced, IsInClosure, IsInNext, IsReachedBy, IsStartItem, Own}
use Rattle.lrpar_table_items.specs.Resolution.{chosen}
use Rattle.lrpar_table_build.specs.BuilderLaws.{lists_in}
use Rattle.lrpar_table_build.specs.Built.{IsBuiltBy}
use Rattle.lrpar_table_build.specs.KeptApart.{AreKeptApart, BeginsWithItsRule, EndsInItsRule, PrecedencesKeepApart, ReducesOrFails, ShiftsOrFails}
use Rattle.lrpar_table_build.proofs.DecidedLemmas.{Accepting, Failing, Reducing, Shifting, acting_by, first_reduction}
use Rattle.lrpar_table_build.proofs.MemberLemmas.{member_none}
use Rattle.lrpar_table_build.proofs.ReachedLemmas.{closure_cases, no_added_rule, start_is_fresh, symbol_listed}
use Rattle.lrpar_table_build.proofs.SafeLemmas.{advanced_from}

-- a list by its first two elements
pub two_first : {X : Type 0} (w : List X) (x y : X) → slice_get w 0 ≡ Some x → slice_get w 1 ≡ Some y → (v : List X) × (w ≡ x ∷ y ∷ v)
two_first [] x y first second = absurd (cc)
two_first (a ∷ []) x y first second = absurd (cc)
two_first (a ∷ b ∷ v) x y first second = let same : a ≡ x = cc in let also : b ≡ y = cc in (v, cc)

-- what is left of a list is its last element
last_left : {X : Type 0} (w : List X) (k : ℕ) (x : X) → slice_get w k ≡ Some x → length w ≡ k + 1 → drop k w ≡ x ∷ []
last_left [] k x at len = absurd (omega (arith, len))
last_left (y ∷ []) zero x at len = let same : y ≡ x = cc in ap (λ z. z ∷ []) same
last_left (y ∷ z ∷ w) zero x at len = absurd (omega (arith, len))
last_left (y ∷ w) (suc k) x at len = last_left w k x at (omega (arith, len))

module _ (g : Grammar) (well : IsWellFormed g) where
  -- an item that a path reaches comes from its production's item with the dot at the start, which an earlier path reaches; and if that
  -- path reaches the latter with another lookahead, the path reaches the item with this lookahead
  from_start : (k p t : ℕ) (path : List GrammarSymbol) → IsReachedBy g path (item_at p k t)
      → (earlier : List GrammarSymbol) × IsReachedBy g earlier (item_at p 0 t)
      × ((u : ℕ) → IsReachedBy g earlier (item_at p 0 u) → IsReachedBy g path (item_at p k u))
  from_start zero p t path h = (path, h, λ u there. there)
  from_start (suc k) p t [] h = let fresh : suc k ≡ 0 = start_is_fresh g well (item_at p (suc k) t) h in absurd (omega (arith, fresh))
  from_start (suc k) p t (x ∷ path) h =
      let same : suc k ≡ k + 1 = omega arith in
      let from = advanced_from g (IsReachedBy g path) x p k t (subst (λ (n : ℕ). IsInNext g (IsReachedBy g path) x (item_at p n t)) same h) in
      let rest = from_start k p t path from.1 in (
        rest.0,
        rest.1,
        λ u there. subst (λ (n : ℕ). IsInNext g (IsReachedBy g path) x (item_at p n u)) (sym same)
            (Own (item_at p (k + 1) u) (item_at p k u, rest.2 u there, from.0, refl)),
      )

  -- what an item adds is reached with it
  added_to : (path : List GrammarSymbol) (x y : ItemOf) → IsReachedBy g path x → Adds g x y → IsReachedBy g path y
  added_to [] x y has adds = Added x y has adds
  added_to (s ∷ path) x y has adds = Added x y has adds

  module _ (p q r : ℕ) (listed : p ≢ start_prod g) (p_rule : rule_of g p ≡ r) (q_known : q < prods_len g) (q_rule : rule_of g q ≡ r) where
    -- beside an item of p with its dot at the start, there is one of q with the same lookahead
    closure_beside : (items : ItemOf → Type 0) → ((x : ItemOf) → items x → x.dot ≡ 0 → x.prod ≡ start_prod g) → (t : ℕ)
        → IsInClosure g items (item_at p 0 t) → IsInClosure g items (item_at q 0 t)
    closure_beside items fresh t h =
        elim (closure_cases g items (item_at p 0 t) h) [
          | inl own ↦ absurd (listed (fresh (item_at p 0 t) own refl))
          | inr more ↦
              let adds = more.2 in
              Added more.0 (item_at q 0 t) more.1
              (record {
                rule = adds.rule;
                rest = adds.rest;
                before = adds.before;
                known = q_known;
                of_rule = q_rule ∙ sym p_rule ∙ adds.of_rule;
                fresh = refl;
                first = adds.first;
              })
        ]

    beside : (t : ℕ) (path : List GrammarSymbol) → IsReachedBy g path (item_at p 0 t) → IsReachedBy g path (item_at q 0 t)
    beside t [] h = closure_beside (IsStartItem g) (λ x is front. ap (λ (y : ItemOf). y.prod) is) t h
    beside t (s ∷ path) h =
        closure_beside (IsAdvanced g (IsReachedBy g path) s)
        (λ x from front. let moved : x.dot ≡ from.0.dot + 1 = ap (λ (y : ItemOf). y.dot) from.3 in absurd (omega (arith, moved, front))) t h

  module _ (p q r b : ℕ) (ends : EndsInItsRule g p r) (begins : BeginsWithItsRule g q r b) where
    -- p isn't the start production
    pub not_start : p ≢ start_prod g
    not_start is = no_added_rule g well p ends.before r (sym ends.of_rule ∙ ap (rule_of g) is ∙ well.last_rule) ends.last

    -- the token is one of the grammar, and not the end token
    pub token_known : b < end_token g
    token_known = symbol_listed g well q 1 (Terminal b) begins.second

    -- a set in which p is complete has it complete with lookahead b
    pub complete_at_token : (t : ℕ) (path : List GrammarSymbol) → IsReachedBy g path (item_at p (prod_len g p) t)
        → IsReachedBy g path (item_at p (prod_len g p) b)
    complete_at_token t path h =
        let back = from_start (prod_len g p) p t path h in
        let other = beside p q r not_start ends.of_rule begins.known begins.of_rule t back.0 back.1 in
        let parts = two_first (symbols_of g q) (Nonterminal r) (Terminal b) begins.first begins.second in
        back.2 b (added_to back.0 (item_at q 0 t) (item_at p 0 b) other
        (record {
          rule = r;
          rest = Terminal b ∷ parts.0;
          before = parts.1;
          known = ends.known;
          of_rule = ends.of_rule;
          fresh = refl;
          first = Token b parts.0;
        }))

    -- and a set in which p is complete with lookahead b has an item with b after its dot
    pub shift_beside : (path : List GrammarSymbol) → IsReachedBy g path (item_at p (prod_len g p) b)
        → (x : ItemOf) × IsReachedBy g path x × (slice_get (symbols_of g x.prod) x.dot ≡ Some (Terminal b))
    shift_beside [] h =
        let fresh : prod_len g p ≡ 0 = start_is_fresh g well (item_at p (prod_len g p) b) h in
        let len = ends.len in absurd (omega (arith, fresh, len))
    shift_beside (x ∷ path) h =
        let k = ends.before in
        let from = advanced_from g (IsReachedBy g path) x p k b
        (subst (λ (n : ℕ). IsInNext g (IsReachedBy g path) x (item_at p n b)) ends.len h) in
        let at = from.0 in
        let last = ends.last in
        let same : Nonterminal r ≡ x = cc in
        let there : IsReachedBy g path (item_at q 0 b) = added_to path (item_at p k b) (item_at q 0 b) from.1
        (record {
          rule = r;
          rest = [];
          before = last_left (symbols_of g p) k (Nonterminal r) ends.last ends.len;
          known = begins.known;
          of_rule = begins.of_rule;
          fresh = refl;
          first = Empty;
        }) in
        (item_at q 1 b, Own (item_at q 1 b) (item_at q 0 b, there, begins.first ∙ ap (λ (s : GrammarSymbol). Some s) same, refl), begins.second)

-- what is chosen, if precedences say reduce or error, is no shift
chosen_not_shift : (o : Option Resolution) (next p other : ℕ) → ReducesOrFails o → chosen o next p ≡ ShiftTo other → ⊥
chosen_not_shift None next p other says is = says
chosen_not_shift (Some Shift) next p other says is = says
chosen_not_shift (Some Reduce) next p other says is = absurd (cc)
chosen_not_shift (Some Error) next p other says is = absurd (cc)

-- and if they say shift or error, it is no reduction
chosen_not_reduction : (o : Option Resolution) (next p q : ℕ) → ShiftsOrFails o → chosen o next p ≡ ReduceBy q → ⊥
chosen_not_reduction None next p q says is = says
chosen_not_reduction (Some Shift) next p q says is = absurd (cc)
chosen_not_reduction (Some Reduce) next p q says is = says
chosen_not_reduction (Some Error) next p q says is = absurd (cc)

module _ (precedences : PrecedenceLists) (g : Grammar) (graph : Graph) (table : Table) (well : IsWellFormed g) (built : IsBuiltBy g precedences graph table)
    (p q r b : ℕ) (ends : EndsInItsRule g p r) (begins : BeginsWithItsRule g q r b) where
  in_grammar : b < tokens_len g
  in_grammar = let low = token_known g well p q r b ends begins in omega (arith, low)

  -- a state that shifts b has an item for it
  shift_of_item : (s next : ℕ) → s < states_len table → action_of table s b ≡ ShiftTo next → HasAfterDot g (sets_of graph) s (Terminal b)
  shift_of_item s next here at =
      elim (acting_by g graph s table b precedences (built.resolution.acts s b here in_grammar)) [
        | Shifting to is before leads ↦ before
        | Reducing by is first ↦ absurd (cc)
        | Accepting is accept ↦ absurd (cc)
        | Failing is ↦ absurd (cc)
      ]

  -- a state that reduces by p has it complete, and as the first of its reductions
  reduction_of_item : (s : ℕ) → s < states_len table → action_of table s b ≡ ReduceBy p → HasFirstReduce g (sets_of graph) s b p
  reduction_of_item s here at =
      elim (acting_by g graph s table b precedences (built.resolution.acts s b here in_grammar)) [
        | Shifting to is before leads ↦ absurd (cc)
        | Reducing by is first ↦ let same : by ≡ p = cc in subst (HasFirstReduce g (sets_of graph) s b) same first
        | Accepting is accept ↦ absurd (cc)
        | Failing is ↦ absurd (cc)
      ]

  -- if no reduce/reduce conflict is listed, a reduction of a state is its first one
  alone_is_first : (lists_in table.conflicts).reduce_reduce ≡ [] → (s : ℕ) → s < graph_len graph → HasReduce g (sets_of graph) s b p
      → HasFirstReduce g (sets_of graph) s b p
  alone_is_first none s within candidate =
      let first = first_reduction g graph s b p candidate in
      let low = first.1.1 p candidate in
      elim (cases_eq first.0 p) [
        | inl same ↦ subst (HasFirstReduce g (sets_of graph) s b) same first.1
        | inr other ↦
            let differs : first.0 ≢ p = other in
            let x : ReduceReduce = record { token = b; first = first.0; second = p; state = s } in
            let listed = (built.conflicts.reduce_reduce x).1 (within, in_grammar, (first.1, candidate, omega (arith, low, differs))) in
            absurd (member_none x (subst (λ (xs : List ReduceReduce). Contains xs x) none listed))
      ]

  kept_apart : AreKeptApart precedences g graph table p b
  kept_apart = record {
    no_shift = λ says none s next core at.
        let len = prod_len g p in
        let within = state_in_range graph s p len core.0 core.1 in
        let states = built.resolution.states in
        let here : s < states_len table = omega (arith, within, states) in
        let reached = built.canonical.reached s within in
        let there = (reached.1 (item_at p len b)).1
        (complete_at_token g well p q r b ends begins core.0 reached.0 ((reached.1 (item_at p len core.0)).0 core.1)) in
        let first = alone_is_first none s within (not_start g well p q r b ends begins, there) in
        let met = (built.resolution.acts s b here in_grammar).meets (shift_of_item s next here at) p first in
        chosen_not_shift (resolution_of precedences p b) met.0 p next says (sym met.1 ∙ at);
    no_reduction = λ says s at.
        elim (cases_lt s (states_len table)) [
          | inr past ↦ let fails : action_of table s b ≡ Fails = built.resolution.no_state s b past in absurd (cc)
          | inl here ↦
              let states = built.resolution.states in
              let within : s < graph_len graph = omega (arith, here, states) in
              let first = reduction_of_item s here at in
              let reached = built.canonical.reached s within in
              let item = shift_beside g well p q r b ends begins reached.0 ((reached.1 (item_at p (prod_len g p) b)).0 first.0.1) in
              let met = (built.resolution.acts s b here in_grammar).meets (item.0, (reached.1 item.0).1 item.1, item.2) p first in
              chosen_not_reduction (resolution_of precedences p b) met.0 p p says (sym met.1 ∙ at)
        ];
  }

pub precedences_keep_apart : PrecedencesKeepApart
precedences_keep_apart precedences g graph table well built p q r b ends begins = kept_apart precedences g graph table well built p q r b ends begins
