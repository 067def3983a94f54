-- A table of merged item sets is safe, whatever precedences resolve its conflicts. Each action of the table is one that its set calls
-- for, or an error; and the items of a set follow from the transitions to it.
use Rattle.std.proofs.Common.{◌≡◌, ◌<◌, ◌∙◌, refl, sym, subst, inl, inr, arith, ℕ, None, Option, Some}
use Rattle.std.proofs.lemmas.Bool.{cases_lt}
use Rattle.lrpar_grammar.proofs.PartsLemmas.{rule_of_within}
use Rattle.lrpar_grammar.specs.Grammar.{Grammar, GrammarSymbol, IsWellFormed, Nonterminal, Terminal, end_token, prod_len, rule_of, rules_len, start_prod, tokens_len}
use Rattle.lrpar_table_precedence.specs.Precedence.{PrecedenceLists, no_precedences, resolution_of}
use Rattle.lrpar_table_precedence.specs.declared.precedence.Resolution.{Resolution}
use Rattle.lrpar_table_precedence.specs.declared.precedence.Resolution.TheVariants.{Shift, Reduce, Error}
use Rattle.lrpar_table_rows.specs.Graph.{Graph, HasItem, graph_len, item_at}
use Rattle.lrpar_table_rows.specs.Safe.{GoesBy, IsSafe, IsSafeAt}
use Rattle.lrpar_table_rows.specs.Table.{Accepts, Fails, ReduceBy, ShiftTo, Table, TableAction, action_of, goto_of, states_len}
use Rattle.lrpar_table_rows.specs.declared.condition.SafetyCondition.{SafetyCondition}
use Rattle.lrpar_table_rows.specs.declared.condition.SafetyCondition.TheVariants.{S2, S3, S4, S5, S6, S7, S8}
use Rattle.lrpar_table_rows.proofs.GraphLemmas.{state_in_range}
use Rattle.lrpar_table_items.specs.Canonical.{HasAfterDot, HasAccept, HasFirstReduce, HasReduce, sets_of}
use Rattle.lrpar_table_items.specs.Resolution.{chosen}
use Rattle.lrpar_table_build.proofs.DecidedLemmas.{before_decided, first_decided, item_decided}
use Rattle.lrpar_table_build.proofs.ReachedLemmas.{no_end_token}
use Rattle.lrpar_table_merge.specs.Held.{IsHeld}
use Rattle.lrpar_table_merge.specs.Merged.{Along, AreMerged}
use Rattle.lrpar_table_merge.specs.MergedBy.{ActsAsMergedBy, IsMergedTableBy}
use Rattle.lrpar_table_merge.specs.MergedByLaws.{MergedTablesByPrecedencesAreSafe}
use Rattle.lrpar_table_merge.specs.MergedLaws.{MergedTablesAreSafe}
use Rattle.lrpar_table_merge.proofs.MergedByNoneLemmas.{none_decide, table_with}
use Rattle.lrpar_table_merge.proofs.MergedHeldLemmas.{held_at_end, held_fresh, held_items, held_start_item, held_with_rule}

module _ (g : Grammar) (graph : Graph) (table : Table) (goes : ℕ → GrammarSymbol → ℕ → Type 0) where
  -- items of the state call for the action at token t
  abbrev CallsFor : ℕ → ℕ → TableAction → Type 0
  CallsFor s t (ShiftTo next) = HasAfterDot g (sets_of graph) s (Terminal t) × goes s (Terminal t) next
  CallsFor s t (ReduceBy p) = HasReduce g (sets_of graph) s t p
  CallsFor s t Accepts = HasAccept g (sets_of graph) s t
  CallsFor s t Fails = Unit {0}

  -- a shift and a reduction meet, and precedences may decide
  meeting : (s t : ℕ) (o : Option Resolution) (p next : ℕ) → HasAfterDot g (sets_of graph) s (Terminal t) → HasFirstReduce g (sets_of graph) s t p
      → goes s (Terminal t) next → CallsFor s t (chosen o next p)
  meeting s t None p next before first go = (before, go)
  meeting s t (Some Shift) p next before first go = (before, go)
  meeting s t (Some Reduce) p next before first go = first.0
  meeting s t (Some Error) p next before first go = tt

  acting : (lists : PrecedenceLists) (s t : ℕ) → ActsAsMergedBy g lists (sets_of graph) goes table s t → CallsFor s t (action_of table s t)
  acting lists s t acts =
      let is : (action : TableAction) → action_of table s t ≡ action → CallsFor s t action → CallsFor s t (action_of table s t) =
      λ action same. subst (CallsFor s t) (sym same) in
      elim (before_decided g graph s (Terminal t)) [
        | inl before ↦
            elim (first_decided g graph s t) [
              | inl first ↦
                  let met = acts.meets before first.0 first.1 in
                  is _ met.1 (meeting s t (resolution_of lists first.0 t) first.0 met.0 before first.1 met.2)
              | inr no_reduction ↦ let shift = acts.shifts before no_reduction in is (ShiftTo shift.0) shift.1 (before, shift.2)
            ]
        | inr no_shift ↦
            elim (first_decided g graph s t) [
              | inl first ↦ is (ReduceBy first.0) (acts.reduces no_shift first.0 first.1) first.1.0
              | inr no_reduction ↦
                  elim (item_decided g graph s (start_prod g) 1 t) [
                    | inl accept ↦ is Accepts (acts.accepts no_shift no_reduction accept) accept
                    | inr no_accept ↦ is Fails (acts.fails no_shift no_reduction no_accept) tt
                  ]
            ]
      ]

  -- the state goes by the rule along a transition, or not at all
  abbrev GoesOn : ℕ → ℕ → Option ℕ → Type 0
  GoesOn s r None = Unit {0}
  GoesOn s r (Some next) = goes s (Nonterminal r) next

  module _ (lists : PrecedenceLists) (resolved : IsMergedTableBy g lists graph table goes) where
    -- in range, items call for the table's action; out of range, it is an error
    action_there : (s t : ℕ) → CallsFor s t (action_of table s t)
    action_there s t =
        elim (cases_lt s (states_len table)) [
          | inr past ↦ subst (CallsFor s t) (sym (resolved.no_state s t past)) tt
          | inl within ↦
              elim (cases_lt t (tokens_len g)) [
                | inr past ↦ let is = resolved.tokens in subst (CallsFor s t) (sym (resolved.no_token s t (omega (arith, past, is)))) tt
                | inl below ↦ acting lists s t (resolved.acts s t within below)
              ]
        ]

    -- so the items call for each action that is there
    called_for : (s t : ℕ) (action : TableAction) → action_of table s t ≡ action → CallsFor s t action
    called_for s t action at = subst (CallsFor s t) at (action_there s t)

    -- so it is with the goto by a rule
    goto_there : (s r : ℕ) → s < states_len table → GoesOn s r (goto_of table s r)
    goto_there s r within =
        elim (cases_lt r (rules_len g)) [
          | inr past ↦ let is = resolved.rules in subst (GoesOn s r) (sym (resolved.no_rule s r (omega (arith, past, is)))) tt
          | inl below ↦
              let gotos = resolved.gotos s r within below in
              elim (before_decided g graph s (Nonterminal r)) [
                | inl before ↦ let to = gotos.goes_on before in subst (GoesOn s r) (sym to.1) to.2
                | inr none ↦ subst (GoesOn s r) (sym (gotos.stays none)) tt
              ]
        ]

    -- the table goes only along the transitions
    goes_along : (s : ℕ) (X : GrammarSymbol) (next : ℕ) → s < states_len table → GoesBy table s X next → goes s X next
    goes_along s (Terminal t) next within go = (called_for s t (ShiftTo next) go).1
    goes_along s (Nonterminal r) next within go = subst (GoesOn s r) go (goto_there s r within)

    module _ (well : IsWellFormed g) (merged : AreMerged g (graph_len graph) (sets_of graph) goes) where
      -- a state holds its items
      holds : (s p k t : ℕ) → HasItem graph s p k t → IsHeld g goes s (item_at p k t)
      holds s p k t has = (merged.held s (state_in_range graph s p k t has) (item_at p k t)).0 has

      low : (s : ℕ) → s < states_len table → s < graph_len graph
      low s within = let is = resolved.states in omega (arith, within, is)

      safe_at : (condition : SafetyCondition) (s : ℕ) → s < states_len table → IsSafeAt g graph table condition s
      safe_at S2 s within = λ here p k has.
          held_fresh g goes (graph_len graph) (sets_of graph) merged s (item_at p k has.0) (holds s p k has.0 has.1) (here ∙ resolved.start)
      safe_at S3 s within = λ next at.
          let before = (called_for s (end_token g) (ShiftTo next) at).0 in no_end_token g well before.0.prod before.0.dot (end_token g) refl before.2
      safe_at S4 s within = λ X next go p k has.
          (merged.step s X next (low s within) (goes_along s X next within go)).cores p k has.0 has.1
      safe_at S5 s within = λ t p at. let candidate = called_for s t (ReduceBy p) at in (candidate.0, (t, candidate.1))
      safe_at S6 s within = λ p has listed.
          let item = item_at p 0 has.0 in
          let here = holds s p 0 has.0 has.1 in
          let from = held_with_rule g goes s item here refl listed in
          let before : HasAfterDot g (sets_of graph) s (Nonterminal (rule_of g p)) =
          (from.0, (merged.held s (low s within) from.0).1 from.1, from.2) in
          let known = (held_items g goes well s item here).prod in
          let to = (resolved.gotos s (rule_of g p) within (rule_of_within g p well known)).goes_on before in (to.0, to.1)
      safe_at S7 s within = λ t at.
          let candidate = called_for s t Accepts at in
          (held_at_end g goes well s (item_at (start_prod g) 1 t) (holds s (start_prod g) 1 t candidate) refl, (t, candidate))
      safe_at S8 s within = record {
        never_back = λ X go.
            (merged.step s X table.start (low s within) (goes_along s X table.start within go)).never_back resolved.start;
        first_core = λ has.
            held_start_item g goes well s (item_at (start_prod g) 0 has.0) (holds s (start_prod g) 0 has.0 has.1) refl refl
            ∙ sym resolved.start;
      }

      safe : IsSafe g graph table
      safe = record {
        shape = record {
          states = resolved.states;
          some = let first = merged.start in let is = resolved.states in omega (arith, first, is);
          tokens = resolved.tokens;
          rules = resolved.rules;
          reduces = λ s t p at.
              let candidate = called_for s t (ReduceBy p) at in
              (held_items g goes well s (item_at p (prod_len g p) t) (holds s p (prod_len g p) t candidate.1)).prod;
          items = λ s p k t has. held_items g goes well s (item_at p k t) (holds s p k t has);
        };
        each = safe_at;
      }

pub merged_tables_by_precedences_are_safe : MergedTablesByPrecedencesAreSafe
merged_tables_by_precedences_are_safe g lists graph table steps well merged resolved =
    safe g graph table (Along steps) lists resolved well merged

-- and so is one without precedences
pub merged_tables_are_safe : MergedTablesAreSafe
merged_tables_are_safe g graph table steps well merged resolved =
    safe g graph table (Along steps) no_precedences (table_with g no_precedences none_decide graph table (Along steps) resolved) well merged
