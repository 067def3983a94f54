-- The item sets of an operator grammar. A state to which a token leads has one core past the start, since the token is in one place
-- alone; and items with the dot at the start, if a rule is after that core's dot. A state to which the rule leads has that core moved on
-- by one, and the cores `R: R . b R`: no production has two rules side by side, so nothing else is added.
use Rattle.std.proofs.Common.{◌≡◌, ◌<◌, ◌+◌, ◌⊎◌, ◌∙◌, inl, inr, sym, ap, subst, arith, ℕ, zero, suc, List, [], ◌∷◌, length, Option, Some, slice_get}
use Rattle.std.proofs.lemmas.Bool.{cases_lt}
use Rattle.std.proofs.lemmas.Option.{slice_get_within}
use Rattle.lrpar_grammar.specs.Grammar.{Grammar, GrammarSymbol, IsWellFormed, Nonterminal, Terminal, end_token, prod_len, start_prod, symbols_of, tokens_len}
use Rattle.lrpar_table_precedence.specs.Precedence.{PrecedenceLists, resolution_of}
use Rattle.lrpar_table_precedence.specs.declared.precedence.Resolution.{Resolution}
use Rattle.lrpar_table_precedence.specs.declared.precedence.Resolution.TheVariants.{Reduce, Shift}
use Rattle.lrpar_table_rows.specs.Graph.{Graph, ItemOf, graph_len, item_at}
use Rattle.lrpar_table_rows.specs.Table.{ReduceBy, ShiftTo, Table, action_of, goto_of, states_len}
use Rattle.lrpar_table_items.specs.Canonical.{HasAfterDot, HasFirstReduce, HasReduce, LeadsTo, sets_of}
use Rattle.lrpar_table_items.specs.ItemSets.{IsAdvanced}
use Rattle.lrpar_table_items.specs.Resolution.{chosen}
use Rattle.lrpar_table_build.specs.Built.{IsBuiltBy}
use Rattle.lrpar_table_build.proofs.DecidedLemmas.{before_decided, first_decided}
use Rattle.lrpar_table_build.proofs.ReachedLemmas.{closure_each, head_after, known_by_symbol, reached_items, symbol_listed}
use Rattle.lrpar_parse_precedences.specs.OperatorGrammars.{IsAtom, IsBrackets, IsInfix, IsOperatorGrammar, IsOperatorProd}

-- no two rules are side by side
gap_brackets : (l c r d s u : ℕ) → slice_get (Terminal l ∷ Nonterminal r ∷ Terminal c ∷ []) d ≡ Some (Nonterminal s)
    → slice_get (Terminal l ∷ Nonterminal r ∷ Terminal c ∷ []) (d + 1) ≡ Some (Nonterminal u) → ⊥
gap_brackets l c r zero s u first second = absurd (cc)
gap_brackets l c r (suc zero) s u first second = absurd (cc)
gap_brackets l c r (suc (suc d)) s u first second =
    let within = slice_get_within (Terminal l ∷ Nonterminal r ∷ Terminal c ∷ []) (suc (suc d) + 1) (Nonterminal u) second in omega (arith, within)

gap_infix : (b r d s u : ℕ) → slice_get (Nonterminal r ∷ Terminal b ∷ Nonterminal r ∷ []) d ≡ Some (Nonterminal s)
    → slice_get (Nonterminal r ∷ Terminal b ∷ Nonterminal r ∷ []) (d + 1) ≡ Some (Nonterminal u) → ⊥
gap_infix b r zero s u first second = absurd (cc)
gap_infix b r (suc zero) s u first second = absurd (cc)
gap_infix b r (suc (suc d)) s u first second =
    let within = slice_get_within (Nonterminal r ∷ Terminal b ∷ Nonterminal r ∷ []) (suc (suc d) + 1) (Nonterminal u) second in omega (arith, within)

gap_one : (x : GrammarSymbol) (d u : ℕ) → slice_get (x ∷ []) (d + 1) ≡ Some (Nonterminal u) → ⊥
gap_one x d u second = let within = slice_get_within (x ∷ []) (d + 1) (Nonterminal u) second in omega (arith, within)

module _ (g : Grammar) (precedences : PrecedenceLists) (graph : Graph) (table : Table) (well : IsWellFormed g)
    (built : IsBuiltBy g precedences graph table) (operators : IsOperatorGrammar g precedences) where
  gap_of : (q d s u : ℕ) → IsOperatorProd g precedences q → slice_get (symbols_of g q) d ≡ Some (Nonterminal s)
      → slice_get (symbols_of g q) (d + 1) ≡ Some (Nonterminal u) → ⊥
  gap_of q d s u (IsAtom a is) first second =
      gap_one (Terminal a) d u (subst (λ (w : List GrammarSymbol). slice_get w (d + 1) ≡ Some (Nonterminal u)) is second)
  gap_of q d s u (IsBrackets l c is) first second =
      gap_brackets l c g.start d s u (subst (λ (w : List GrammarSymbol). slice_get w d ≡ Some (Nonterminal s)) is first)
      (subst (λ (w : List GrammarSymbol). slice_get w (d + 1) ≡ Some (Nonterminal u)) is second)
  gap_of q d s u (IsInfix b x is of_prod of_token) first second =
      gap_infix b g.start d s u (subst (λ (w : List GrammarSymbol). slice_get w d ≡ Some (Nonterminal s)) is first)
      (subst (λ (w : List GrammarSymbol). slice_get w (d + 1) ≡ Some (Nonterminal u)) is second)

  gap : (q d s u : ℕ) → slice_get (symbols_of g q) d ≡ Some (Nonterminal s) → slice_get (symbols_of g q) (d + 1) ≡ Some (Nonterminal u) → ⊥
  gap q d s u first second =
      let known = known_by_symbol g well q d (Nonterminal s) first in
      elim (cases_lt q (start_prod g)) [
        | inl low ↦ gap_of q d s u (operators.prods q low) first second
        | inr past ↦
            let is : q ≡ start_prod g = omega (arith, known, past) in
            gap_one (Nonterminal g.start) d u
            (subst (λ (w : List GrammarSymbol). slice_get w (d + 1) ≡ Some (Nonterminal u)) (ap (symbols_of g) is ∙ well.last_symbols) second)
      ]

  -- a listed production isn't empty, and none is the rule alone
  len_some : (p : ℕ) → IsOperatorProd g precedences p → prod_len g p ≡ 0 → ⊥
  len_some p (IsAtom a is) none = let one = ap (λ (w : List GrammarSymbol). length w) is in omega (arith, none, one)
  len_some p (IsBrackets l c is) none = let three = ap (λ (w : List GrammarSymbol). length w) is in omega (arith, none, three)
  len_some p (IsInfix b x is of_prod of_token) none = let three = ap (λ (w : List GrammarSymbol). length w) is in omega (arith, none, three)

  not_alone : (p r : ℕ) → IsOperatorProd g precedences p → prod_len g p ≡ 1 → slice_get (symbols_of g p) 0 ≡ Some (Nonterminal r) → ⊥
  not_alone p r (IsAtom a is) one first =
      let other : slice_get (symbols_of g p) 0 ≡ Some (Terminal a) = ap (λ (w : List GrammarSymbol). slice_get w 0) is in cc
  not_alone p r (IsBrackets l c is) one first = let three = ap (λ (w : List GrammarSymbol). length w) is in omega (arith, one, three)
  not_alone p r (IsInfix b x is of_prod of_token) one first = let three = ap (λ (w : List GrammarSymbol). length w) is in omega (arith, one, three)

  -- each item of the state has this core; or its dot is at the start, and a rule is after the core's dot
  abbrev pub HasKernel : ℕ → ℕ → ℕ → Type 0
  HasKernel s p k =
      (x : ItemOf) → sets_of graph s x
      → ((x.prod ≡ p) × (x.dot ≡ k)) ⊎ ((x.dot ≡ 0) × ((r : ℕ) × (slice_get (symbols_of g p) k ≡ Some (Nonterminal r))))

  -- each item of the state has its dot right after the rule: it has the core, moved on; or its dot is after the first symbol
  abbrev pub IsAfterRule : ℕ → ℕ → ℕ → Type 0
  IsAfterRule s p k =
      (x : ItemOf) → sets_of graph s x
      → (d : ℕ) × (x.dot ≡ d + 1) × (slice_get (symbols_of g x.prod) d ≡ Some (Nonterminal g.start)) × (((x.prod ≡ p) × (d ≡ k)) ⊎ (d ≡ 0))

  -- the production of a reduction is a listed one
  reduce_listed : (s t p : ℕ) → s < states_len table → HasReduce g (sets_of graph) s t p → p < start_prod g
  reduce_listed s t p within reduces =
      let count = built.resolution.states in
      let inside : s < graph_len graph = omega (arith, count, within) in
      let reached = built.canonical.reached s inside in
      let x = item_at p (prod_len g p) t in
      let known = (reached_items g well reached.0 x ((reached.1 x).0 reduces.1)).prod in
      let listed = reduces.0 in omega (arith, known, listed)

  pub kernel_reduces : (s p k t q : ℕ) → s < states_len table → HasKernel s p k → HasReduce g (sets_of graph) s t q → (q ≡ p) × (prod_len g q ≡ k)
  kernel_reduces s p k t q within kernel reduces =
      elim (kernel (item_at q (prod_len g q) t) reduces.1) [
        | inl same ↦ same
        | inr fresh ↦ absurd (len_some q (operators.prods q (reduce_listed s t q within reduces)) fresh.0)
      ]

  pub after_reduces : (s p k t q : ℕ) → s < states_len table → IsAfterRule s p k → HasReduce g (sets_of graph) s t q → (q ≡ p) × (prod_len g q ≡ k + 1)
  after_reduces s p k t q within after reduces =
      let at = after (item_at q (prod_len g q) t) reduces.1 in
      elim at.3 [
        | inl same ↦ (same.0, at.1 ∙ ap (λ (n : ℕ). n + 1) same.1)
        | inr front ↦
            let one : prod_len g q ≡ 1 = at.1 ∙ ap (λ (n : ℕ). n + 1) front in
            let first : slice_get (symbols_of g q) 0 ≡ Some (Nonterminal g.start) =
            subst (λ (n : ℕ). slice_get (symbols_of g q) n ≡ Some (Nonterminal g.start)) front at.2 in
            absurd (not_alone q g.start (operators.prods q (reduce_listed s t q within reduces)) one first)
      ]

  -- where a token leads, and where the rule does
  pub kernel_shifted : (s p k a next : ℕ) → slice_get (symbols_of g p) k ≡ Some (Terminal a) → LeadsTo g (sets_of graph) s (Terminal a) next
      → HasKernel next p (k + 1)
  kernel_shifted s p k a next at leads x has =
      closure_each g
      (λ y. ((y.prod ≡ p) × (y.dot ≡ k + 1)) ⊎ ((y.dot ≡ 0) × ((r : ℕ) × (slice_get (symbols_of g p) (k + 1) ≡ Some (Nonterminal r)))))
      (λ y z holds adds. inr (
        adds.fresh,
        elim holds [
          | inr fresh ↦ fresh.1
          | inl same ↦
              let there = head_after (symbols_of g y.prod) y.dot (Nonterminal adds.rule) adds.rest adds.before in (
                adds.rule,
                subst (λ (n : ℕ). slice_get (symbols_of g p) n ≡ Some (Nonterminal adds.rule)) same.1
                    (subst (λ (n : ℕ). slice_get (symbols_of g n) y.dot ≡ Some (Nonterminal adds.rule)) same.0 there),
              )
        ],
      ))
      (IsAdvanced g (sets_of graph s) (Terminal a))
      (λ y from.
      let place = operators.apart from.0.prod p from.0.dot k a from.2 at in
      inl (ap (λ (z : ItemOf). z.prod) from.3 ∙ place.0, ap (λ (z : ItemOf). z.dot) from.3 ∙ ap (λ (n : ℕ). n + 1) place.1))
      x ((leads x).0 has)

  pub after_goto : (s p k next : ℕ) → HasKernel s p k → LeadsTo g (sets_of graph) s (Nonterminal g.start) next → IsAfterRule next p k
  after_goto s p k next kernel leads x has =
      closure_each g
      (λ y. (d : ℕ) × (y.dot ≡ d + 1) × (slice_get (symbols_of g y.prod) d ≡ Some (Nonterminal g.start)) × (((y.prod ≡ p) × (d ≡ k)) ⊎ (d ≡ 0)))
      (λ y z holds adds.
      let there = head_after (symbols_of g y.prod) y.dot (Nonterminal adds.rule) adds.rest adds.before in
      absurd (gap y.prod holds.0 g.start adds.rule holds.2
      (subst (λ (n : ℕ). slice_get (symbols_of g y.prod) n ≡ Some (Nonterminal adds.rule)) holds.1 there)))
      (IsAdvanced g (sets_of graph s) (Nonterminal g.start))
      (λ y from.
      let w = from.0 in
      let prod : w.prod ≡ y.prod = sym (ap (λ (z : ItemOf). z.prod) from.3) in (
        w.dot,
        ap (λ (z : ItemOf). z.dot) from.3,
        subst (λ (n : ℕ). slice_get (symbols_of g n) w.dot ≡ Some (Nonterminal g.start)) prod from.2,
        elim (kernel w from.1) [
          | inl same ↦ inl (sym prod ∙ same.0, same.1)
          | inr fresh ↦ inr fresh.0
        ],
      ))
      x ((leads x).0 has)

  -- a state shifts a token after a dot, if what precedences say against each first reduction is a shift
  pub shift_step : (s a : ℕ) → s < states_len table → HasAfterDot g (sets_of graph) s (Terminal a)
      → ((q : ℕ) → HasFirstReduce g (sets_of graph) s a q → resolution_of precedences q a ≡ Some Shift)
      → (next : ℕ) × (action_of table s a ≡ ShiftTo next) × LeadsTo g (sets_of graph) s (Terminal a) next
  shift_step s a within before says =
      let listed : a < end_token g = symbol_listed g well before.0.prod before.0.dot (Terminal a) before.2 in
      let acts = built.resolution.acts s a within (omega (arith, listed)) in
      elim (first_decided g graph s a) [
        | inr none ↦ acts.shifts before none
        | inl first ↦
            let met = acts.meets before first.0 first.1 in
            (met.0, met.1 ∙ ap (λ (o : Option Resolution). chosen o met.0 first.0) (says first.0 first.1), met.2)
      ]

  pub goto_step : (s : ℕ) → s < states_len table → HasAfterDot g (sets_of graph) s (Nonterminal g.start)
      → (next : ℕ) × (goto_of table s g.start ≡ Some next) × LeadsTo g (sets_of graph) s (Nonterminal g.start) next
  goto_step s within before =
      let listed = symbol_listed g well before.0.prod before.0.dot (Nonterminal g.start) before.2 in
      (built.resolution.goes s g.start within listed.1).goes before

  -- it reduces by its only reduction, if what precedences say is to reduce where the token is after a dot
  pub reduce_step : (s t q : ℕ) → s < states_len table → t < tokens_len g → HasReduce g (sets_of graph) s t q
      → ((p : ℕ) → HasReduce g (sets_of graph) s t p → p ≡ q)
      → (HasAfterDot g (sets_of graph) s (Terminal t) → resolution_of precedences q t ≡ Some Reduce) → action_of table s t ≡ ReduceBy q
  reduce_step s t q within low has only says =
      let acts = built.resolution.acts s t within low in
      elim (first_decided g graph s t) [
        | inr none ↦ absurd (none q has)
        | inl first ↦
            let same : first.0 ≡ q = only first.0 first.1.0 in
            let by : ReduceBy first.0 ≡ ReduceBy q = ap (λ (n : ℕ). ReduceBy n) same in
            elim (before_decided g graph s (Terminal t)) [
              | inr none ↦ acts.reduces none first.0 first.1 ∙ by
              | inl before ↦
                  let met = acts.meets before first.0 first.1 in
                  let says_first : resolution_of precedences first.0 t ≡ Some Reduce =
                  subst (λ (n : ℕ). resolution_of precedences n t ≡ Some Reduce) (sym same) (says before) in
                  met.1 ∙ ap (λ (o : Option Resolution). chosen o met.0 first.0) says_first ∙ by
            ]
      ]
