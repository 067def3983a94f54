-- A canonical table is complete if and only if no item set has two different actions before conflict resolution at one token. The
-- item sets alone give C1 to C4. C5 says that at a complete item the table has the item's action. So if each set has one action
-- at each token, C5 holds; and if C5 holds, each action of a set is that of the table.
use Rattle.std.proofs.Common.{◌≡◌, ◌≢◌, ◌<◌, ◌+◌, ◌∙◌, refl, sym, ap, subst, arith, ℕ, List, [], ◌∷◌, Some, length, slice_get}
use Rattle.lrpar_grammar.specs.Grammar.{Grammar, GrammarSymbol, IsWellFormed, Nonterminal, Terminal, end_token, prod_len, start_prod, symbols_of, tokens_len}
use Rattle.lrpar_table_rows.proofs.GraphLemmas.{state_in_range}
use Rattle.lrpar_table_rows.specs.Graph.{Graph, HasItem, ItemOf, graph_len, item_at}
use Rattle.lrpar_table_rows.specs.Safe.{IsItem}
use Rattle.lrpar_table_rows.specs.Table.{Accepts, Fails, ReduceBy, ShiftTo, Table, TableAction, action_of, states_len}
use Rattle.lrpar_table_build.specs.BuilderLaws.{IsCanonicalTable, HaveOneAction, HasAction}
use Rattle.lrpar_table_items.specs.Canonical.{AreSame, IsCanonical, LeadsTo, HasAfterDot, HasReduce, sets_of}
use Rattle.lrpar_table_items.specs.ItemSets.{Added, Adds, IsReachedBy, Own}
use Rattle.lrpar_table_build.proofs.ReachedLemmas.{reached_items, symbol_listed}
use Rattle.lrpar_table_conditions.specs.Complete.{IsComplete, IsCompleteAt, StepsOn}
use Rattle.lrpar_table_conditions.specs.declared.completeness.CompletenessCondition.{CompletenessCondition}
use Rattle.lrpar_table_conditions.specs.declared.completeness.CompletenessCondition.TheVariants.{C1, C2, C3, C4, C5}
use Rattle.lrpar_table_check.proofs.SentenceLemmas.{complete_tables_take_sentences}
use Rattle.lrpar_table.specs.TableLaws.{AmbiguousGrammarsHaveConflicts, BuiltTablesAreCompleteWithoutConflicts, GrammarsWithoutConflictsHaveOneTree}

-- the item set that a path leads to has what its items add
added_to : (g : Grammar) (path : List GrammarSymbol) (x y : ItemOf) → IsReachedBy g path x → Adds g x y → IsReachedBy g path y
added_to g [] x y has adds = Added x y has adds
added_to g (s ∷ path) x y has adds = Added x y has adds

module _ (g : Grammar) (graph : Graph) (table : Table) (well : IsWellFormed g) (canonical : IsCanonical g graph)
    (by_sets : IsCanonicalTable g graph table) where
  -- an item of a state is one of the grammar
  item_known : (s p k t : ℕ) → HasItem graph s p k t → IsItem g p k t
  item_known s p k t has =
      let item = item_at p k t in
      let reached = canonical.reached s (state_in_range graph s p k t has) in reached_items g well reached.0 item ((reached.1 item).0 has)

  -- the set to which a state goes by the symbol after an item's dot has the item with the dot one further
  moved_on : (s next p k t : ℕ) (x : GrammarSymbol) → HasItem graph s p k t → slice_get (symbols_of g p) k ≡ Some x
      → LeadsTo g (sets_of graph) s x next → HasItem graph next p (k + 1) t
  moved_on s next p k t x has at leads =
      let item = item_at p (k + 1) t in (leads item).1 (Own item (item_at p k t, has, at, refl))

  -- so that set is one of the graph
  next_within : (s next : ℕ) (x : GrammarSymbol) → HasAfterDot g (sets_of graph) s x → LeadsTo g (sets_of graph) s x next
      → next < graph_len graph
  next_within s next x before leads =
      let item = before.0 in
      state_in_range graph next item.prod (item.dot + 1) item.token
      (moved_on s next item.prod item.dot item.token x before.1 before.2 leads)

  -- the state shifts each token after an item's dot
  shifts_on : (s p k t a : ℕ) → s < states_len table → HasItem graph s p k t → slice_get (symbols_of g p) k ≡ Some (Terminal a)
      → StepsOn graph table s (Terminal a) p k t
  shifts_on s p k t a within has at =
      let listed : a < end_token g = symbol_listed g well p k (Terminal a) at in
      let to = (by_sets.acts s a within (omega (arith, listed))).shifts (item_at p k t, has, at) in
      (to.0, to.1, moved_on s to.0 p k t (Terminal a) has at to.2)

  -- and goes by each rule after it
  carries_on : (s p k t r : ℕ) → s < states_len table → HasItem graph s p k t → slice_get (symbols_of g p) k ≡ Some (Nonterminal r)
      → StepsOn graph table s (Nonterminal r) p k t
  carries_on s p k t r within has at =
      let listed = symbol_listed g well p k (Nonterminal r) at in
      let to = (by_sets.goes s r within listed.1).goes (item_at p k t, has, at) in
      (to.0, to.1, moved_on s to.0 p k t (Nonterminal r) has at to.2)

  module _ (one : HaveOneAction g (graph_len graph) (sets_of graph)) where
    -- a state with an action other than a shift at the token has no item before the token
    no_shift_beside : (s t : ℕ) (action : TableAction) → s < graph_len graph → t < tokens_len g → HasAction g (graph_len graph) (sets_of graph) s t action
        → ((next : ℕ) → action ≢ ShiftTo next) → ¬ (HasAfterDot g (sets_of graph) s (Terminal t))
    no_shift_beside s t action within known candidate other before =
        let here : s < states_len table = let is = by_sets.states in omega (arith, within, is) in
        let to = (by_sets.acts s t here known).shifts before in
        let shift : HasAction g (graph_len graph) (sets_of graph) s t (ShiftTo to.0) =
        (before, next_within s to.0 (Terminal t) before to.2, to.2) in
        other to.0 (one s t action (ShiftTo to.0) within candidate shift)

    -- the table makes the one reduction of a state's items
    reduces : (s t p : ℕ) → s < states_len table → HasReduce g (sets_of graph) s t p → action_of table s t ≡ ReduceBy p
    reduces s t p here candidate =
        let within = state_in_range graph s p (prod_len g p) t candidate.1 in
        let known = (item_known s p (prod_len g p) t candidate.1).token in
        (by_sets.acts s t here known).reduces (no_shift_beside s t (ReduceBy p) within known candidate (λ next is. absurd (cc))) p (
          candidate,
          λ q also.
              let same : ReduceBy p ≡ ReduceBy q = one s t (ReduceBy p) (ReduceBy q) within candidate also in
              let equal : p ≡ q = cc in omega (arith, equal),
        )

    -- and accepts if they do
    accepts : (s t : ℕ) → s < states_len table → HasItem graph s (start_prod g) 1 t → action_of table s t ≡ Accepts
    accepts s t here has =
        let within = state_in_range graph s (start_prod g) 1 t has in
        let known = (item_known s (start_prod g) 1 t has).token in
        (by_sets.acts s t here known).accepts (no_shift_beside s t Accepts within known has (λ next is. absurd (cc))) (λ p also.
        let same : Accepts ≡ ReduceBy p = one s t Accepts (ReduceBy p) within has also in absurd (cc)) has

    complete_at : (condition : CompletenessCondition) (s : ℕ) → s < states_len table → IsCompleteAt g graph table condition s
    complete_at C1 s here = λ first.
        let item = item_at (start_prod g) 0 (end_token g) in
        subst (λ (n : ℕ). HasItem graph n (start_prod g) 0 (end_token g)) (sym (first ∙ by_sets.start)) ((canonical.start item).1 (Own item refl))
    complete_at C2 s here = λ p k t has r w after q b known by begins.
        let x = item_at p k t in
        let y = item_at q 0 b in
        let reached = canonical.reached s (state_in_range graph s p k t has) in
        (reached.1 y).1 (added_to g reached.0 x y ((reached.1 x).0 has)
        (record { rule = r; rest = w; before = after; known = known; of_rule = by; fresh = refl; first = begins }))
    complete_at C3 s here = λ p k t has a at. shifts_on s p k t a here has at
    complete_at C4 s here = λ p k t has r at. carries_on s p k t r here has at
    complete_at C5 s here = λ p k t has. record {
      reduces = λ after listed. reduces s t p here (listed, subst (λ (n : ℕ). HasItem graph s p n t) after has);
      accepts = λ after last.
          let one_symbol : prod_len g (start_prod g) ≡ 1 = ap (λ (w : List GrammarSymbol). length w) well.last_symbols in
          let dot : k ≡ 1 = after ∙ ap (prod_len g) last ∙ one_symbol in
          accepts s t here (subst (λ (n : ℕ). HasItem graph s (start_prod g) n t) dot (subst (λ (n : ℕ). HasItem graph s n k t) last has));
    }

    is_complete : IsComplete g graph table
    is_complete = record { each = complete_at }

  module _ (complete : IsComplete g graph table) where
    -- the table has the action that a state's items have before conflict resolution
    done : (s t : ℕ) (action : TableAction) → s < graph_len graph → HasAction g (graph_len graph) (sets_of graph) s t action → action_of table s t ≡ action
    done s t (ShiftTo next) within candidate =
        let here : s < states_len table = let is = by_sets.states in omega (arith, within, is) in
        let x = candidate.0.0 in
        let listed : t < end_token g = symbol_listed g well x.prod x.dot (Terminal t) candidate.0.2 in
        let to = (by_sets.acts s t here (omega (arith, listed))).shifts candidate.0 in
        let same : AreSame (sets_of graph to.0) (sets_of graph next) = λ y. (
          λ h. (candidate.2 y).1 ((to.2 y).0 h),
          λ h. (to.2 y).1 ((candidate.2 y).0 h),
        ) in
        to.1 ∙ ap (λ (n : ℕ). ShiftTo n) (canonical.once to.0 next (next_within s to.0 (Terminal t) candidate.0 to.2) candidate.1 same)
    done s t (ReduceBy p) within candidate =
        let here : s < states_len table = let is = by_sets.states in omega (arith, within, is) in
        (complete.each C5 s here p (prod_len g p) t candidate.1).reduces refl candidate.0
    done s t Accepts within candidate =
        let here : s < states_len table = let is = by_sets.states in omega (arith, within, is) in
        let one_symbol : prod_len g (start_prod g) ≡ 1 = ap (λ (w : List GrammarSymbol). length w) well.last_symbols in
        (complete.each C5 s here (start_prod g) 1 t candidate).accepts (sym one_symbol) refl
    done s t Fails within candidate = absurd candidate

    one_action : HaveOneAction g (graph_len graph) (sets_of graph)
    one_action s t a b within candidate also = sym (done s t a within candidate) ∙ done s t b within also

pub built_tables_are_complete_without_conflicts : BuiltTablesAreCompleteWithoutConflicts
built_tables_are_complete_without_conflicts g graph table well built = (
  λ complete. built.no_conflicts.1 (one_action g graph table well built.canonical built.resolved complete),
  λ none. is_complete g graph table well built.canonical built.resolved (built.no_conflicts.0 none),
)

pub grammars_without_conflicts_have_one_tree : {X : Type 0} → GrammarsWithoutConflictsHaveOneTree X
grammars_without_conflicts_have_one_tree token g graph table well closed built none tree other fits other_fits same =
    let complete = (built_tables_are_complete_without_conflicts g graph table well built).1 none in
    (complete_tables_take_sentences token g graph table well closed built.safe complete).one tree other fits other_fits same

pub ambiguous_grammars_have_conflicts : {X : Type 0} → AmbiguousGrammarsHaveConflicts X
ambiguous_grammars_have_conflicts token g graph table well closed built tree other have none =
    have.different (grammars_without_conflicts_have_one_tree token g graph table well closed built none tree other have.fits have.other_fits have.leaves_same)
