-- An error is found before any reduction, over a table of the canonical collection, if no conflict was resolved to an error, and each
-- reachable rule is productive. Let a state reduce by `B: x` at token t. Its set has `B: x .  {t}`. Back along the states of x, the
-- state below them has `B: . x  {t}`, which an item `A: v . B w  {a}` of that state adds, where t is in First(w, a). So the state to
-- which the goto by B leads has `A: v B . w  {a}`, and so it calls for an action at t: a shift, a reduction or accept. Conflict
-- resolution chooses one of those for which it calls, unless precedences choose an error. So after a reduction at t the top has an
-- action at t; and a stack that is stuck at t has none.
use Rattle.std.proofs.Common.{◌≡◌, ◌≢◌, ◌<◌, ◌≤◌, ◌+◌, ◌∙◌, inl, inr, refl, sym, ap, subst, arith, ℕ, List, [], ◌∷◌, ◌++◌, drop, length, None, Option, Some, slice_get}
use Rattle.std.proofs.lemmas.Bool.{cases_eq, cases_lt}
use Rattle.std.proofs.lemmas.List.Elements.{All-contains}
use Rattle.lrpar_grammar.specs.Grammar.{Grammar, GrammarSymbol, IsWellFormed, Nonterminal, Terminal, end_token, prod_len, rule_of, start_prod, symbols_of, tokens_len}
use Rattle.lrpar_table_precedence.specs.Precedence.{PrecedenceLists, resolution_of}
use Rattle.lrpar_table_precedence.specs.declared.precedence.Resolution.{Resolution}
use Rattle.lrpar_table_precedence.specs.declared.precedence.Resolution.TheVariants.{Error, Reduce, Shift}
use Rattle.lrpar_table_rows.specs.Graph.{Graph, HasItem, ItemOf, graph_len, item_at}
use Rattle.lrpar_table_rows.specs.Safe.{GoesBy}
use Rattle.lrpar_table_rows.specs.declared.condition.SafetyCondition.TheVariants.{S4}
use Rattle.lrpar_table_rows.specs.Table.{Accepts, Fails, IsClosed, ReduceBy, ResolvedOf, ShiftTo, Table, action_of, goto_of, states_len}
use Rattle.lrpar_table_first.specs.First.{IsFirst}
use Rattle.lrpar_table_items.specs.Canonical.{HasAccept, HasAfterDot, HasReduce, LeadsTo, sets_of}
use Rattle.lrpar_table_items.specs.ItemSets.{Adds, IsAdvanced, IsInClosure, IsReachedBy, IsStartItem, Own}
use Rattle.lrpar_table_items.specs.Resolution.{chosen}
use Rattle.lrpar_table_build.specs.Built.{IsBuiltBy}
use Rattle.lrpar_table_build.proofs.DecidedLemmas.{Accepting, Failing, Reducing, Shifting, acting_by, before_decided, first_decided}
use Rattle.lrpar_table_build.proofs.ReachedLemmas.{closure_cases, head_after, reached_items, symbol_listed}
use Rattle.lrpar_table_build.proofs.SafeLemmas.{advanced_from}
use Rattle.lrpar_table_sentences.specs.Reachable.{EachReachableHasTree}
use Rattle.lrpar_table_sentences.proofs.AfterLemmas.{drop_at_get}
use Rattle.lrpar_table_stacks.specs.Path.{Leads, NeverSticks}
use Rattle.lrpar_table_stacks.specs.Reduction.{Settles, top_action}
use Rattle.lrpar_table_stacks.specs.Run.{IsStuck, token_at}
use Rattle.lrpar_table_stacks.specs.RunLaws.{KeepOffEnd}
use Rattle.lrpar_table_stacks.proofs.PathLemmas.{action_at_last, goes_within, last_of, last_within, never_sticks}
use Rattle.lrpar_table_stacks.proofs.RunLemmas.{HasPath, fails_from_stuck, settles_path, settles_settled}
use Rattle.lrpar_parse_precedences.specs.PrecedenceTrees.{NoneIsError}
use Rattle.lrpar_parse_precedences.proofs.CalledLemmas.{CallsFor, item_calls}
use Rattle.lrpar_parse_precedences.proofs.ReducedLemmas.{IsCut, cut, cut_path, last_joined}

-- a shift and a reduction are resolved to one of the two, unless precedences say error
chosen_acts : (o : Option Resolution) (next p : ℕ) → o ≢ Some Error → chosen o next p ≢ Fails
chosen_acts None next p other is = absurd (cc)
chosen_acts (Some Shift) next p other is = absurd (cc)
chosen_acts (Some Reduce) next p other is = absurd (cc)
chosen_acts (Some Error) next p other is = other refl

-- an item of a closure with its dot at the start is added by one of the closure, if no such item is given but the start item
added_in : (g : Grammar) (items : ItemOf → Type 0) → ((y : ItemOf) → items y → y.dot ≡ 0 → y.prod ≡ start_prod g) → (y : ItemOf) → IsInClosure g items y
    → y.dot ≡ 0 → y.prod ≢ start_prod g → (x : ItemOf) × IsInClosure g items x × Adds g x y
added_in g items given y has fresh listed =
    elim (closure_cases g items y has) [
      | inl own ↦ absurd (listed (given y own fresh))
      | inr more ↦ more
    ]

added_by : (g : Grammar) (path : List GrammarSymbol) (y : ItemOf) → IsReachedBy g path y → y.dot ≡ 0 → y.prod ≢ start_prod g
    → (x : ItemOf) × IsReachedBy g path x × Adds g x y
added_by g [] = added_in g (IsStartItem g) (λ y is fresh. ap (λ (x : ItemOf). x.prod) is)
added_by g (s ∷ path) =
    added_in g (IsAdvanced g (IsReachedBy g path) s)
    (λ y from fresh. let moved : y.dot ≡ from.0.dot + 1 = ap (λ (x : ItemOf). x.dot) from.3 in absurd (omega (arith, moved, fresh)))

module _ (g : Grammar) (precedences : PrecedenceLists) (graph : Graph) (table : Table) (well : IsWellFormed g) (closed : IsClosed table)
    (built : IsBuiltBy g precedences graph table) (each : EachReachableHasTree g) (none : NoneIsError table.resolved) where
  never : NeverSticks g table
  never = never_sticks g graph table closed built.safe well

  in_graph : (s : ℕ) → s < states_len table → s < graph_len graph
  in_graph s within = let count = built.resolution.states in omega (arith, count, within)

  -- a token at which a state reduces is one of the grammar
  token_known : (t s n : ℕ) → action_of table s t ≡ ReduceBy n → t < tokens_len g
  token_known t s n reduces =
      elim (cases_lt t (tokens_len g)) as (λ _. t < tokens_len g) [
        | inl low ↦ low
        | inr past ↦
            let count = built.resolution.tokens in
            let fails : action_of table s t ≡ Fails = built.resolution.no_token s t (omega (arith, past, count)) in absurd (cc)
      ]

  -- a state has an action at each token at which its set calls for one
  called_acts : (s t : ℕ) → s < states_len table → t < tokens_len g → CallsFor g (sets_of graph s) t → action_of table s t ≢ Fails
  called_acts s t within low calls fails =
      let acts = built.resolution.acts s t within low in
      elim (before_decided g graph s (Terminal t)) [
        | inl before ↦
            elim (first_decided g graph s t) [
              | inl first ↦
                  let met = acts.meets before first.0 first.1 in
                  let at : ResolvedOf = record { conflict = record { token = t; prod = first.0; state = s }; by = Error } in
                  chosen_acts (resolution_of precedences first.0 t) met.0 first.0
                  (λ says. All-contains (λ (x : ResolvedOf). x.by ≢ Error) table.resolved at none
                  ((built.resolved at).1 (in_graph s within, low, ((before, first.1), says))) refl)
                  (sym met.1 ∙ fails)
              | inr no_reduction ↦ let shift = acts.shifts before no_reduction in let is : ShiftTo shift.0 ≡ Fails = sym shift.1 ∙ fails in absurd (cc)
            ]
        | inr no_shift ↦
            elim (first_decided g graph s t) [
              | inl first ↦ let is : ReduceBy first.0 ≡ Fails = sym (acts.reduces no_shift first.0 first.1) ∙ fails in absurd (cc)
              | inr no_reduction ↦
                  elim calls [
                    | inl before ↦ no_shift before
                    | inr complete ↦
                        elim (cases_eq complete.0 (start_prod g)) [
                          | inr listed ↦ no_reduction complete.0 (listed, complete.1)
                          | inl last ↦
                              let len : prod_len g complete.0 ≡ 1 =
                              ap (λ (w : List GrammarSymbol). length w) (ap (symbols_of g) last ∙ well.last_symbols) in
                              let accept : HasAccept g (sets_of graph) s t =
                              subst (λ (n : ℕ). HasItem graph s (start_prod g) n t) len
                              (subst (λ (p : ℕ). HasItem graph s p (prod_len g complete.0) t) last complete.1) in
                              let is : Accepts ≡ Fails = sym (acts.accepts no_shift no_reduction accept) ∙ fails in absurd (cc)
                        ]
                  ]
            ]
      ]

  -- a state that reduces by n at t has its complete item with lookahead t
  reduce_called : (s t n : ℕ) → s < states_len table → t < tokens_len g → action_of table s t ≡ ReduceBy n → HasReduce g (sets_of graph) s t n
  reduce_called s t n within low at =
      elim (acting_by g graph s table t precedences (built.resolution.acts s t within low)) [
        | Reducing p is first ↦ let same : p ≡ n = cc in subst (HasReduce g (sets_of graph) s t) same first.0
        | Shifting to is before leads ↦ absurd (cc)
        | Accepting is accept ↦ absurd (cc)
        | Failing is ↦ absurd (cc)
      ]

  -- a state with a symbol after the dot of an item goes by it where its set leads
  leads_after : (s : ℕ) (x : GrammarSymbol) (next : ℕ) → s < states_len table → HasAfterDot g (sets_of graph) s x → GoesBy table s x next
      → LeadsTo g (sets_of graph) s x next
  leads_after s (Nonterminal r) next within before goes =
      let listed = symbol_listed g well before.0.prod before.0.dot (Nonterminal r) before.2 in
      let to = (built.resolution.goes s r within listed.1).goes before in
      let there : goto_of table s r ≡ Some to.0 = to.1 in
      let same : to.0 ≡ next = cc in
      subst (LeadsTo g (sets_of graph) s (Nonterminal r)) same to.2
  leads_after s (Terminal t) next within before goes =
      let listed : t < end_token g = symbol_listed g well before.0.prod before.0.dot (Terminal t) before.2 in
      elim (acting_by g graph s table t precedences (built.resolution.acts s t within (omega (arith, listed)))) [
        | Shifting to is given leads ↦ let same : to ≡ next = cc in subst (LeadsTo g (sets_of graph) s (Terminal t)) same leads
        | Reducing p is first ↦ absurd (cc)
        | Accepting is accept ↦ absurd (cc)
        | Failing is ↦ absurd (cc)
      ]

  -- back along a production's symbols, from its complete item
  items_back : (n t s k : ℕ) (xs : List GrammarSymbol) (st : List ℕ) → s < states_len table → k + length xs ≡ prod_len g n → Leads table s xs st
      → HasItem graph (last_of s st) n (prod_len g n) t → HasItem graph s n k t
  items_back n t s k [] [] within len leads has =
      let end : prod_len g n ≡ k = omega (arith, len) in subst (λ (j : ℕ). HasItem graph s n j t) end has
  items_back n t s k [] (next ∷ st) within len leads has = absurd leads
  items_back n t s k (x ∷ xs) [] within len leads has = absurd leads
  items_back n t s k (x ∷ xs) (next ∷ st) within len leads has =
      let later = items_back n t next (k + 1) xs st (goes_within table closed s x next leads.0) (omega (arith, len)) leads.1 has in
      let core = built.safe.each S4 s within x next leads.0 n k (t, later) in
      let goes = leads_after s x next within (item_at n k core.1.0, core.1.1, core.0) leads.0 in
      (advanced_from g (sets_of graph s) x n k t ((goes (item_at n (k + 1) t)).0 later)).1

  -- the item of a state that adds another one, moved on, is in the state to which the goto leads, and so this one has an action
  goto_acts : (n t s state : ℕ) → s < states_len table → HasItem graph s n 0 t → n ≢ start_prod g → GoesBy table s (Nonterminal (rule_of g n)) state
      → action_of table state t ≢ Fails
  goto_acts n t s state within has listed goes =
      let y = item_at n 0 t in
      let reached = built.canonical.reached s (in_graph s within) in
      let here = (reached.1 y).0 has in
      let from = added_by g reached.0 y here refl listed in
      let x = from.0 in
      let adds : Adds g x y = from.2 in
      let at : slice_get (symbols_of g x.prod) x.dot ≡ Some (Nonterminal (rule_of g n)) =
      head_after (symbols_of g x.prod) x.dot (Nonterminal (rule_of g n)) adds.rest
      (adds.before ∙ ap (λ (r : ℕ). Nonterminal r ∷ adds.rest) (sym adds.of_rule)) in
      let moved = item_at x.prod (x.dot + 1) x.token in
      let leads = leads_after s (Nonterminal (rule_of g n)) state within (x, (reached.1 x).1 from.1, at) goes in
      let there = (leads moved).1 (Own moved (x, (reached.1 x).1 from.1, at, refl)) in
      let next = goes_within table closed s (Nonterminal (rule_of g n)) state goes in
      let other = built.canonical.reached state (in_graph state next) in
      let rest : adds.rest ≡ drop (x.dot + 1) (symbols_of g x.prod) =
      let both : Nonterminal adds.rule ∷ adds.rest ≡ Nonterminal (rule_of g n) ∷ drop (x.dot + 1) (symbols_of g x.prod) =
      sym adds.before ∙ drop_at_get (symbols_of g x.prod) x.dot (Nonterminal (rule_of g n)) at in cc in
      let first : IsFirst g x.token (drop (x.dot + 1) (symbols_of g x.prod)) t =
      subst (λ (w : List GrammarSymbol). IsFirst g x.token w t) rest adds.first in
      let calls : CallsFor g (sets_of graph state) t =
      elim (item_calls g well each other.0 moved ((other.1 moved).0 there) t first) [
        | inl shift ↦ inl (shift.0, (other.1 shift.0).1 shift.1, shift.2)
        | inr complete ↦ let z = item_at complete.0 (prod_len g complete.0) t in inr (complete.0, (other.1 z).1 complete.1)
      ] in
      called_acts state t next (reached_items g well reached.0 y here).token calls

  -- after a reduction at token t, the top has an action at t
  reduced_acts : (t n : ℕ) (symbols : List GrammarSymbol) (above after : List ℕ) → t < tokens_len g → IsCut g table t n symbols above after
      → top_action table t after ≢ Fails
  reduced_acts t n symbols above after low c fails =
      let start = table.start in
      let bottom = last_of start c.lower in
      let within = last_within table closed start c.below c.lower closed.start_within c.lower_leads in
      let reduces = reduce_called (last_of bottom c.upper) t n (last_within table closed bottom (symbols_of g n) c.upper within c.upper_leads) low c.action in
      let fresh = items_back n t bottom 0 (symbols_of g n) c.upper within (omega arith) c.upper_leads reduces.1 in
      let top : last_of start (c.lower ++ c.state ∷ []) ≡ c.state = last_joined start c.lower (c.state ∷ []) in
      let last = action_at_last table start t (c.lower ++ c.state ∷ []) Fails (sym (ap (top_action table t) c.pushed) ∙ fails) in
      goto_acts n t bottom c.state within fresh reduces.0 c.goto (sym (ap (λ (s : ℕ). action_of table s t) top) ∙ last)

  -- so it has one after all reductions at t, if there is any
  settled_acts : (t n : ℕ) (ps st after : List ℕ) → HasPath table st → Settles g table t st (n ∷ ps) after → top_action table t after ≢ Fails
  settled_acts t n ps [] after path settles fails = absurd path.1
  settled_acts t n [] (s ∷ above) after path settles fails =
      let stack : s ∷ above ≡ table.start ∷ above = ap (λ (i : ℕ). i ∷ above) path.1.0 in
      let leads = subst (λ (i : ℕ). Leads table i path.0 above) path.1.0 path.1.1 in
      let c = cut g table never t n path.0 above (s ∷ above) settles.0 stack leads settles.1 in
      reduced_acts t n path.0 above settles.0 (token_known t (last_of (last_of table.start c.lower) c.upper) n c.action) c (ap (top_action table t) settles.2.0 ∙ fails)
  settled_acts t n (m ∷ ps) (s ∷ above) after path settles fails =
      let stack : s ∷ above ≡ table.start ∷ above = ap (λ (i : ℕ). i ∷ above) path.1.0 in
      let leads = subst (λ (i : ℕ). Leads table i path.0 above) path.1.0 path.1.1 in
      let c = cut g table never t n path.0 above (s ∷ above) settles.0 stack leads settles.1 in
      settled_acts t m ps settles.0 after (cut_path g table never t n path.0 above settles.0 c) settles.2 fails

  -- and a stuck stack has made none
  pub stops_unreduced : {X : Type 0} (token : X → ℕ) (lexemes : List X) → KeepOffEnd token g lexemes → (st : List ℕ) (i : ℕ) (ps settled : List ℕ)
      → HasPath table st → i ≤ length lexemes → Settles g table (token_at token g lexemes i) st ps settled
      → IsStuck token g table lexemes settled i → ps ≡ []
  stops_unreduced token lexemes apart st i [] settled path fits settles stuck = refl
  stops_unreduced token lexemes apart st i (n ∷ ps) settled path fits settles stuck =
      let t = token_at token g lexemes i in
      let along = settles_path g table t st (n ∷ ps) settled never path settles in
      let fails : top_action table t settled ≡ Fails =
      fails_from_stuck token g table lexemes along.0 settled i never along.1 fits (apart i) (settles_settled g table t st (n ∷ ps) settled settles) stuck in
      absurd (settled_acts t n ps st settled path settles fails)
