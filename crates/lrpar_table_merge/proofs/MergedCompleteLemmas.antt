-- A table of merged item sets is complete if and only if it has no conflicts. The item sets alone give C1 to C4. C5 says that at a
-- complete item the table has the item's action: so it has, if each state calls for one action at each token; and if it has, no two
-- actions can be called for.
use Rattle.std.proofs.Common.{◌≡◌, ◌<◌, ◌+◌, ◌∙◌, refl, sym, ap, subst, arith, ℕ, List, None, Option, Some, length, slice_get}
use Rattle.lrpar_grammar.specs.Grammar.{Grammar, GrammarSymbol, IsWellFormed, Nonterminal, Terminal, end_token, prod_len, start_prod, symbols_of}
use Rattle.lrpar_table_precedence.specs.Precedence.{no_precedences}
use Rattle.lrpar_table_rows.proofs.GraphLemmas.{state_in_range}
use Rattle.lrpar_table_rows.specs.Graph.{Graph, HasItem, graph_len, item_at}
use Rattle.lrpar_table_rows.specs.Table.{Accepts, ConflictLists, ReduceBy, ReduceReduce, ShiftReduce, ShiftTo, Table, action_of, states_len}
use Rattle.lrpar_table_items.specs.Canonical.{HasReduce, IsReduceConflict, IsShiftConflict, sets_of}
use Rattle.lrpar_table_build.specs.BuilderLaws.{AcceptAlone, AreConflictsBy, AreConflictsOf}
use Rattle.lrpar_table_build.proofs.ReachedLemmas.{symbol_listed}
use Rattle.lrpar_table_conditions.specs.Complete.{IsComplete, IsCompleteAt, StepsOn}
use Rattle.lrpar_table_conditions.specs.declared.completeness.CompletenessCondition.{CompletenessCondition}
use Rattle.lrpar_table_conditions.specs.declared.completeness.CompletenessCondition.TheVariants.{C1, C2, C3, C4, C5}
use Rattle.lrpar_table_merge.specs.Held.{Closes, Starts, Steps}
use Rattle.lrpar_table_merge.specs.Merged.{Along, AreMerged, IsMergedTable}
use Rattle.lrpar_table_merge.specs.MergedLaws.{MergedTablesAreCompleteWithoutConflicts}
use Rattle.lrpar_table_merge.proofs.MergedByNoneLemmas.{conflicts_with, none_decide}
use Rattle.lrpar_table_merge.proofs.MergedHeldLemmas.{held_within}
use Rattle.lrpar_table_merge.proofs.MergedConflictLemmas.{item_known, no_reduction_at_end, no_shift_conflict, no_shift_of_end, none_listed, only_reduction}

module _ (g : Grammar) (graph : Graph) (table : Table) (goes : ℕ → GrammarSymbol → ℕ → Type 0) (well : IsWellFormed g)
    (merged : AreMerged g (graph_len graph) (sets_of graph) goes) (resolved : IsMergedTable g graph table goes) where
  -- the start production has one symbol
  one_symbol : prod_len g (start_prod g) ≡ 1
  one_symbol = ap (λ (w : List GrammarSymbol). length w) well.last_symbols

  -- the state to which another one goes by the symbol after an item's dot has the item with the dot one further
  moved_on : (s next p k t : ℕ) (X : GrammarSymbol) → HasItem graph s p k t → slice_get (symbols_of g p) k ≡ Some X → goes s X next
      → HasItem graph next p (k + 1) t
  moved_on s next p k t X has at go =
      let item = item_at p k t in
      let h = Steps s next X item go ((merged.held s (state_in_range graph s p k t has) item).0 has) at in
      (merged.held next (held_within g goes (graph_len graph) (sets_of graph) merged next _ h) (item_at p (k + 1) t)).1 h

  -- the state shifts each token after an item's dot
  shifts_on : (s p k t a : ℕ) → s < states_len table → HasItem graph s p k t → slice_get (symbols_of g p) k ≡ Some (Terminal a)
      → StepsOn graph table s (Terminal a) p k t
  shifts_on s p k t a within has at =
      let listed : a < end_token g = symbol_listed g well p k (Terminal a) at in
      let to = (resolved.acts s a within (omega (arith, listed))).shifts (item_at p k t, has, at) in
      (to.0, to.1, moved_on s to.0 p k t (Terminal a) has at to.2)

  -- and goes by each rule after it
  carries_on : (s p k t r : ℕ) → s < states_len table → HasItem graph s p k t → slice_get (symbols_of g p) k ≡ Some (Nonterminal r)
      → StepsOn graph table s (Nonterminal r) p k t
  carries_on s p k t r within has at =
      let listed = symbol_listed g well p k (Nonterminal r) at in
      let to = (resolved.gotos s r within listed.1).goes_on (item_at p k t, has, at) in
      (to.0, to.1, moved_on s to.0 p k t (Nonterminal r) has at to.2)

  module _ (conflicts : Option ConflictLists) (are : AreConflictsOf g graph conflicts)
      (alone : AcceptAlone g (graph_len graph) (sets_of graph)) where
    module _ (none : conflicts ≡ None) where
      -- they are the conflicts by no precedences
      by_none : AreConflictsBy g no_precedences graph conflicts
      by_none = conflicts_with g no_precedences none_decide graph conflicts are

      -- the table makes the one reduction of a state's items
      reduces : (s t p : ℕ) → s < states_len table → HasReduce g (sets_of graph) s t p → action_of table s t ≡ ReduceBy p
      reduces s t p here candidate =
          let within = state_in_range graph s p (prod_len g p) t candidate.1 in
          let known = (item_known g graph goes well merged s p (prod_len g p) t within candidate.1).token in
          (resolved.acts s t here known).reduces
          (λ before. no_shift_conflict g graph goes well merged no_precedences conflicts by_none none s t p within before candidate refl) p
          (only_reduction g graph goes well merged no_precedences conflicts by_none none s t p within candidate)

      -- and accepts if they do
      accepts : (s t : ℕ) → s < states_len table → HasItem graph s (start_prod g) 1 t → action_of table s t ≡ Accepts
      accepts s t here has =
          let within = state_in_range graph s (start_prod g) 1 t has in
          let known = (item_known g graph goes well merged s (start_prod g) 1 t within has).token in
          (resolved.acts s t here known).accepts (λ before. no_shift_of_end g graph goes well merged s t within before has)
          (λ p also. no_reduction_at_end g graph goes well merged alone s t p within also has) has

      complete_at : (condition : CompletenessCondition) (s : ℕ) → s < states_len table → IsCompleteAt g graph table condition s
      complete_at C1 s here = λ first.
          let item = item_at (start_prod g) 0 (end_token g) in
          subst (λ (n : ℕ). HasItem graph n (start_prod g) 0 (end_token g)) (sym (first ∙ resolved.start))
          ((merged.held 0 merged.start item).1 (Starts item refl))
      complete_at C2 s here = λ p k t has r w after q b known by begins.
          let x = item_at p k t in
          let y = item_at q 0 b in
          let held = merged.held s (state_in_range graph s p k t has) in
          (held y).1 (Closes s x y ((held x).0 has)
          (record { rule = r; rest = w; before = after; known = known; of_rule = by; fresh = refl; first = begins }))
      complete_at C3 s here = λ p k t has a at. shifts_on s p k t a here has at
      complete_at C4 s here = λ p k t has r at. carries_on s p k t r here has at
      complete_at C5 s here = λ p k t has. record {
        reduces = λ after listed. reduces s t p here (listed, subst (λ (n : ℕ). HasItem graph s p n t) after has);
        accepts = λ after last.
            let dot : k ≡ 1 = after ∙ ap (prod_len g) last ∙ one_symbol in
            accepts s t here (subst (λ (n : ℕ). HasItem graph s (start_prod g) n t) dot (subst (λ (n : ℕ). HasItem graph s n k t) last has));
      }

      is_complete : IsComplete g graph table
      is_complete = record { each = complete_at }

    module _ (complete : IsComplete g graph table) where
      -- the table makes each reduction that a state's items call for
      reduced : (s t p : ℕ) → s < graph_len graph → HasReduce g (sets_of graph) s t p → action_of table s t ≡ ReduceBy p
      reduced s t p within candidate =
          let here : s < states_len table = let is = resolved.states in omega (arith, within, is) in
          (complete.each C5 s here p (prod_len g p) t candidate.1).reduces refl candidate.0

      no_reduce_conflict : (x : ReduceReduce) → x.state < graph_len graph → IsReduceConflict g (sets_of graph) x → ⊥
      no_reduce_conflict x within conflict =
          let first = reduced x.state x.token x.first within conflict.0.0 in
          let second = reduced x.state x.token x.second within conflict.1 in
          let same : ReduceBy x.first ≡ ReduceBy x.second = sym first ∙ second in
          let equal : x.first ≡ x.second = cc in
          let less : x.first < x.second = conflict.2 in omega (arith, equal, less)

      no_shift_beside : (x : ShiftReduce) → x.state < graph_len graph → IsShiftConflict g (sets_of graph) x → ⊥
      no_shift_beside x within conflict =
          let here : x.state < states_len table = let is = resolved.states in omega (arith, within, is) in
          let before = conflict.0 in
          let listed : x.token < end_token g = symbol_listed g well before.0.prod before.0.dot (Terminal x.token) before.2 in
          let to = (resolved.acts x.state x.token here (omega (arith, listed))).shifts before in
          let reduction = reduced x.state x.token x.prod within conflict.1.0 in
          let same : ShiftTo to.0 ≡ ReduceBy x.prod = sym to.1 ∙ reduction in absurd (cc)

      none_there : conflicts ≡ None
      none_there =
          none_listed conflicts are.some
          (λ x there. let conflict = (are.reduce_reduce x).0 there in no_reduce_conflict x conflict.0 conflict.2)
          (λ x there. let conflict = (are.shift_reduce x).0 there in no_shift_beside x conflict.0 conflict.2)

pub merged_tables_are_complete_without_conflicts : MergedTablesAreCompleteWithoutConflicts
merged_tables_are_complete_without_conflicts g graph table well built =
    let goes = Along built.steps in (
      λ complete. none_there g graph table goes well built.merged built.resolved table.conflicts built.conflicts built.accept_alone complete,
      λ none. is_complete g graph table goes well built.merged built.resolved table.conflicts built.conflicts built.accept_alone none,
    )
