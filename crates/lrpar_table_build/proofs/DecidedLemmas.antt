-- Whether the items of a list call for an action is decidable; and of the reductions that they call for, one is by the least production.
use Rattle.std.proofs.Common.{◌≡◌, ◌≢◌, ◌<◌, ◌≤◌, ◌+◌, ◌⊎◌, ◌∙◌, refl, sym, ap, subst, inl, inr, arith, ℕ, zero, suc, List, [], ◌∷◌, None, Option, Some, slice_get}
use Rattle.std.specs.List.{Contains, list_any}
use Rattle.std.proofs.lemmas.Bool.{cases_Bool, cases_eq, cases_lt, false≢true}
use Rattle.lrpar_grammar.specs.Grammar.{Grammar, GrammarSymbol, Nonterminal, Terminal, prod_len, start_prod, symbols_of}
use Rattle.lrpar_table_precedence.specs.Precedence.{PrecedenceLists, no_precedences, resolution_of}
use Rattle.lrpar_table_precedence.specs.declared.precedence.Resolution.{Resolution}
use Rattle.lrpar_table_precedence.specs.declared.precedence.Resolution.TheVariants.{Shift, Reduce, Error}
use Rattle.lrpar_table_items.specs.Resolution.{chosen}
use Rattle.lrpar_table_rows.specs.Graph.{Graph, ItemOf, item_at, items_of}
use Rattle.lrpar_table_rows.specs.Table.{Accepts, Fails, ReduceBy, ShiftTo, Table, action_of}
use Rattle.lrpar_table_rows.proofs.GraphLemmas.{is_item, item_by_test}
use Rattle.lrpar_table_items.specs.Canonical.{ActsAsResolved, ActsByPrecedence, LeadsTo, HasAfterDot, HasAccept, HasFirstReduce, HasReduce, sets_of}
use Rattle.lrpar_table_build.proofs.MemberLemmas.{member_cases}

-- if a fact is decidable of each element of a list, some element has it, or none has
some_or_none : {X : Type 0} (P : X → Type 0) → ((x : X) → P x ⊎ ¬ (P x)) → (xs : List X)
    → ((x : X) × Contains xs x × P x) ⊎ ((x : X) → Contains xs x → ¬ (P x))
some_or_none P decided [] = inr (λ x there holds. omega (arith, there.1))
some_or_none P decided (y ∷ ys) =
    elim (decided y) [
      | inl holds ↦ inl (y, (0, omega arith, refl), holds)
      | inr fails ↦
          elim (some_or_none P decided ys) [
            | inl found ↦ inl (found.0, (suc found.1.0, omega (arith, found.1.1), found.1.2), found.2)
            | inr none ↦
                inr (λ x there holds. elim (member_cases y ys x there) [
                  | inl first ↦ fails (subst P (sym first) holds)
                  | inr later ↦ none x later holds
                ])
          ]
    ]

-- if a fact is decidable of each number, there is a least number that has it, or no number below n has it
least_below : (P : ℕ → Type 0) → ((n : ℕ) → P n ⊎ ¬ (P n)) → (n : ℕ)
    → ((m : ℕ) × P m × ((q : ℕ) → P q → m ≤ q)) ⊎ ((q : ℕ) → q < n → ¬ (P q))
least_below P decided zero = inr (λ q below holds. omega (arith, below))
least_below P decided (suc n) =
    elim (least_below P decided n) [
      | inl found ↦ inl found
      | inr none ↦
          elim (decided n) [
            | inl holds ↦
                inl (
                  n,
                  holds,
                  λ q other. elim (cases_lt q n) as (λ _. n ≤ q) [
                    | inl below ↦ absurd (none q below other)
                    | inr past ↦ omega (arith, past)
                  ],
                )
            | inr fails ↦
                inr (λ q below holds. elim (cases_lt q n) [
                  | inl before ↦ none q before holds
                  | inr past ↦ let same : q ≡ n = omega (arith, below, past) in fails (subst P same holds)
                ])
          ]
    ]

least : (P : ℕ → Type 0) → ((n : ℕ) → P n ⊎ ¬ (P n)) → (n : ℕ) → P n → (m : ℕ) × P m × ((q : ℕ) → P q → m ≤ q)
least P decided n holds =
    elim (least_below P decided (n + 1)) [
      | inl found ↦ found
      | inr none ↦ absurd (none n (omega arith) holds)
    ]

-- a symbol is found, or not
symbol_decided : (s : GrammarSymbol) (found : Option GrammarSymbol) → (found ≡ Some s) ⊎ (found ≢ Some s)
symbol_decided s None = inr (λ h. absurd (cc))
symbol_decided (Terminal t) (Some (Nonterminal r)) = inr (λ h. absurd (cc))
symbol_decided (Nonterminal r) (Some (Terminal t)) = inr (λ h. absurd (cc))
symbol_decided (Terminal t) (Some (Terminal u)) =
    elim (cases_eq u t) [
      | inl same ↦ inl (ap (λ (n : ℕ). Some (Terminal n)) same)
      | inr other ↦ inr (λ h. other (cc))
    ]
symbol_decided (Nonterminal r) (Some (Nonterminal q)) =
    elim (cases_eq q r) [
      | inl same ↦ inl (ap (λ (n : ℕ). Some (Nonterminal n)) same)
      | inr other ↦ inr (λ h. other (cc))
    ]

-- a complete item of a production other than the start production, with lookahead t
abbrev IsReduction : Grammar → ℕ → ItemOf → Type 0
IsReduction g t x = (x.prod ≢ start_prod g) × (x.dot ≡ prod_len g x.prod) × (x.token ≡ t)

reduction_decided : (g : Grammar) (t : ℕ) (x : ItemOf) → IsReduction g t x ⊎ ¬ (IsReduction g t x)
reduction_decided g t x =
    elim (cases_eq x.prod (start_prod g)) [
      | inl last ↦ inr (λ h. h.0 last)
      | inr listed ↦
          elim (cases_eq x.dot (prod_len g x.prod)) [
            | inr other ↦ inr (λ h. other h.1)
            | inl complete ↦
                elim (cases_eq x.token t) [
                  | inl here ↦ inl (listed, complete, here)
                  | inr elsewhere ↦ inr (λ h. elsewhere h.2)
                ]
          ]
    ]

module _ (g : Grammar) (graph : Graph) (s : ℕ) where
  -- a state has an item, or not
  pub item_decided : (p k t : ℕ) → sets_of graph s (item_at p k t) ⊎ ¬ (sets_of graph s (item_at p k t))
  item_decided p k t =
      let test = item_by_test (items_of graph s) p k t in
      elim (cases_Bool (list_any (is_item p k t) (items_of graph s))) [
        | inl passed ↦ inl (test.0 passed)
        | inr failed ↦ inr (λ there. false≢true (sym failed ∙ test.1 there))
      ]

  -- an item of it has the symbol after its dot, or none has
  pub before_decided : (symbol : GrammarSymbol) → HasAfterDot g (sets_of graph) s symbol ⊎ ¬ (HasAfterDot g (sets_of graph) s symbol)
  before_decided symbol =
      let next : ItemOf → Option GrammarSymbol = λ x. slice_get (symbols_of g x.prod) x.dot in
      elim (some_or_none (λ x. next x ≡ Some symbol) (λ x. symbol_decided symbol (next x)) (items_of graph s)) [
        | inl found ↦ inl found
        | inr none ↦ inr (λ h. none h.0 h.1 h.2)
      ]

  -- it calls for the reduction, or not
  reduce_decided : (t p : ℕ) → HasReduce g (sets_of graph) s t p ⊎ ¬ (HasReduce g (sets_of graph) s t p)
  reduce_decided t p =
      elim (cases_eq p (start_prod g)) [
        | inl last ↦ inr (λ h. h.0 last)
        | inr listed ↦
            elim (item_decided p (prod_len g p) t) [
              | inl there ↦ inl (listed, there)
              | inr missing ↦ inr (λ h. missing h.1)
            ]
      ]

  -- if it calls for any reduction, it calls for one by a least production
  pub first_reduction : (t p : ℕ) → HasReduce g (sets_of graph) s t p → (first : ℕ) × HasFirstReduce g (sets_of graph) s t first
  first_reduction t p candidate =
      let found = least (HasReduce g (sets_of graph) s t) (reduce_decided t) p candidate in (found.0, (found.1, found.2))

  -- it calls for a reduction by a least production, or for none
  pub first_decided : (t : ℕ) → ((p : ℕ) × HasFirstReduce g (sets_of graph) s t p) ⊎ ((p : ℕ) → ¬ (HasReduce g (sets_of graph) s t p))
  first_decided t =
      elim (some_or_none (IsReduction g t) (reduction_decided g t) (items_of graph s)) [
        | inl found ↦
            let x = found.0 in
            let is : x ≡ item_at x.prod (prod_len g x.prod) t =
            ap (λ n. item_at x.prod n x.token) found.2.1 ∙ ap (λ n. item_at x.prod (prod_len g x.prod) n) found.2.2 in
            inl (first_reduction t x.prod (found.2.0, subst (sets_of graph s) is found.1))
        | inr none ↦ inr (λ p candidate. none (item_at p (prod_len g p) t) candidate.1 (candidate.0, refl, refl))
      ]

  module _ (table : Table) (t : ℕ) where
    -- the action of the state at token t, and the items that call for it
    pub data IsActing : Type 0 where
      Shifting : (next : ℕ) → action_of table s t ≡ ShiftTo next → HasAfterDot g (sets_of graph) s (Terminal t)
          → LeadsTo g (sets_of graph) s (Terminal t) next → IsActing
      Reducing : (p : ℕ) → action_of table s t ≡ ReduceBy p → HasFirstReduce g (sets_of graph) s t p → IsActing
      Accepting : action_of table s t ≡ Accepts → HasAccept g (sets_of graph) s t → IsActing
      Failing : action_of table s t ≡ Fails → IsActing

    pub acting : ActsAsResolved g (sets_of graph) table s t → IsActing
    acting acts =
        elim (before_decided (Terminal t)) [
          | inl before ↦ let shift = acts.shifts before in Shifting shift.0 shift.1 before shift.2
          | inr no_shift ↦
              elim (first_decided t) [
                | inl first ↦ Reducing first.0 (acts.reduces no_shift first.0 first.1) first.1
                | inr no_reduction ↦
                    elim (item_decided (start_prod g) 1 t) [
                      | inl accept ↦ Accepting (acts.accepts no_shift no_reduction accept) accept
                      | inr no_accept ↦ Failing (acts.fails no_shift no_reduction no_accept)
                    ]
              ]
        ]

    -- the same by precedences
    chosen_acting : (o : Option Resolution) (p next : ℕ) → HasAfterDot g (sets_of graph) s (Terminal t) → HasFirstReduce g (sets_of graph) s t p
        → action_of table s t ≡ chosen o next p → LeadsTo g (sets_of graph) s (Terminal t) next → IsActing
    chosen_acting None p next before first is leads = Shifting next is before leads
    chosen_acting (Some Shift) p next before first is leads = Shifting next is before leads
    chosen_acting (Some Reduce) p next before first is leads = Reducing p is first
    chosen_acting (Some Error) p next before first is leads = Failing is

    pub acting_by : (precedences : PrecedenceLists) → ActsByPrecedence g precedences (sets_of graph) table s t → IsActing
    acting_by precedences acts =
        elim (before_decided (Terminal t)) [
          | inl before ↦
              elim (first_decided t) [
                | inl first ↦
                    let met = acts.meets before first.0 first.1 in
                    chosen_acting (resolution_of precedences first.0 t) first.0 met.0 before first.1 met.1 met.2
                | inr no_reduction ↦ let shift = acts.shifts before no_reduction in Shifting shift.0 shift.1 before shift.2
              ]
          | inr no_shift ↦
              elim (first_decided t) [
                | inl first ↦ Reducing first.0 (acts.reduces no_shift first.0 first.1) first.1
                | inr no_reduction ↦
                    elim (item_decided (start_prod g) 1 t) [
                      | inl accept ↦ Accepting (acts.accepts no_shift no_reduction accept) accept
                      | inr no_accept ↦ Failing (acts.fails no_shift no_reduction no_accept)
                    ]
              ]
        ]

    -- without precedences, the actions are those after conflict resolution without them
    pub acts_without : ActsByPrecedence g no_precedences (sets_of graph) table s t → ActsAsResolved g (sets_of graph) table s t
    acts_without acts = record {
      shifts = λ before.
          elim (first_decided t) [
            | inl first ↦ acts.meets before first.0 first.1
            | inr no_reduction ↦ acts.shifts before no_reduction
          ];
      reduces = acts.reduces;
      accepts = acts.accepts;
      fails = acts.fails;
    }
