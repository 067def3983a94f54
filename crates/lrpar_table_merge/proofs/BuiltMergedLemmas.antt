-- A table that was built of a grammar is a merged table, with precedences and without. Its transitions are the gotos of its item sets, as a
-- function; the table itself needn't have them all, since precedences may decide against a shift.
use Rattle.std.proofs.Common.{◌≡◌, ◌<◌, ◌+◌, ◌⊎◌, refl, ap, subst, inl, inr, arith, ℕ, None, Option, Some}
use Rattle.std.proofs.lemmas.Bool.{cases_lt}
use Rattle.lrpar_grammar.specs.Grammar.{Grammar, GrammarSymbol, IsWellFormed, Nonterminal, Terminal}
use Rattle.lrpar_table_precedence.specs.Precedence.{PrecedenceLists}
use Rattle.lrpar_table_rows.specs.Graph.{Graph, ItemOf, graph_len, item_at}
use Rattle.lrpar_table_rows.specs.Table.{Table, states_len}
use Rattle.lrpar_table_rows.proofs.GraphLemmas.{state_in_range}
use Rattle.lrpar_table_items.specs.Canonical.{ActsAsResolved, ActsByPrecedence, GoesAsItems, IsCanonical, LeadsTo, HasAfterDot, sets_of}
use Rattle.lrpar_table_items.specs.ItemSets.{Own}
use Rattle.lrpar_table_build.specs.BuilderLaws.{IsCanonicalTable, IsCanonicalTableBy}
use Rattle.lrpar_table_build.proofs.DecidedLemmas.{before_decided}
use Rattle.lrpar_table_merge.specs.Held.{Closes, IsHeld, Starts, Steps}
use Rattle.lrpar_table_merge.specs.Merged.{ActsAsMerged, Along, AreMerged, CanonicalGoes, GoesAsMerged, IsMergedTable}
use Rattle.lrpar_table_merge.specs.MergedBy.{ActsAsMergedBy, IsMergedTableBy}
use Rattle.lrpar_table_merge.specs.MergedByLaws.{BuiltByTablesAreMergedBy}
use Rattle.lrpar_table_merge.specs.MergedLaws.{BuiltTablesAreMerged}
use Rattle.lrpar_table_merge.proofs.CanonicalLemmas.{canonical_sets_are_merged}
use Rattle.lrpar_table_merge.proofs.MergedHeldLemmas.{held_within}

module _ (g : Grammar) (len : ℕ) (sets : ℕ → ItemOf → Type 0) (goes others : ℕ → GrammarSymbol → ℕ → Type 0)
    (merged : AreMerged g len sets goes) (on : (s : ℕ) (X : GrammarSymbol) (n : ℕ) → s < len → goes s X n → others s X n)
    (back : (s : ℕ) (X : GrammarSymbol) (n : ℕ) → s < len → others s X n → goes s X n) where
  -- by the same transitions of the sets, the same is held
  held_on : (s : ℕ) (x : ItemOf) → IsHeld g goes s x → IsHeld g others s x
  held_on s x (Starts y is) = Starts y is
  held_on s x (Closes r y z h adds) = Closes r y z (held_on r y h) adds
  held_on s x (Steps r n X y go h at) = Steps r n X y (on r X n (held_within g goes len sets merged r y h) go) (held_on r y h) at

  held_back : (s : ℕ) (x : ItemOf) → IsHeld g others s x → IsHeld g goes s x
  held_back s x (Starts y is) = Starts y is
  held_back s x (Closes r y z h adds) = Closes r y z (held_back r y h) adds
  held_back s x (Steps r n X y go h at) =
      let from = held_back r y h in Steps r n X y (back r X n (held_within g goes len sets merged r y from) go) from at

  merged_same : AreMerged g len sets others
  merged_same = record {
    start = merged.start;
    some = merged.some;
    held = λ s below x. (λ h. held_on s x ((merged.held s below x).0 h), λ h. (merged.held s below x).1 (held_back s x h));
    next = λ s X below before. let to = merged.next s X below before in (to.0, on s X to.0 below to.1);
    step = λ s X n below go. merged.step s X n below (back s X n below go);
    once = λ s X n m below to other. merged.once s X n m below (back s X n below to) (back s X m below other);
  }

-- the transitions of merged sets are a function: whether a state has one is decided by its items
module _ (g : Grammar) (graph : Graph) (goes : ℕ → GrammarSymbol → ℕ → Type 0) (merged : AreMerged g (graph_len graph) (sets_of graph) goes) where
  -- the state goes on by the symbol, or it doesn't
  abbrev pub StepOrNone : ℕ → GrammarSymbol → Type 0
  StepOrNone s X = ((n : ℕ) × goes s X n) ⊎ ((n : ℕ) → s < graph_len graph → ¬ (goes s X n))

  pub step_decided : (s : ℕ) (X : GrammarSymbol) → StepOrNone s X
  step_decided s X =
      elim (cases_lt s (graph_len graph)) [
        | inr past ↦ inr (λ n below go. omega (arith, past, below))
        | inl below ↦
            elim (before_decided g graph s X) [
              | inl before ↦ inl (merged.next s X below before)
              | inr none ↦ inr (λ n here go. none (merged.step s X n below go).before)
            ]
      ]

  abbrev pub target : (s : ℕ) (X : GrammarSymbol) → StepOrNone s X → Option ℕ
  target s X (inl to) = Some to.0
  target s X (inr none) = None

  target_on : (s : ℕ) (X : GrammarSymbol) (n : ℕ) (step : StepOrNone s X) → s < graph_len graph → goes s X n → target s X step ≡ Some n
  target_on s X n (inl to) below go = ap (λ (k : ℕ). Some k) (merged.once s X to.0 n below to.1 go)
  target_on s X n (inr none) below go = absurd (none n below go)

  target_back : (s : ℕ) (X : GrammarSymbol) (n : ℕ) (step : StepOrNone s X) → target s X step ≡ Some n → goes s X n
  target_back s X n (inl to) is = let same : to.0 ≡ n = cc in subst (goes s X) same to.1
  target_back s X n (inr none) is = absurd (cc)

  abbrev pub steps_by : ℕ → GrammarSymbol → Option ℕ
  steps_by s X = target s X (step_decided s X)

  steps_on : (s : ℕ) (X : GrammarSymbol) (n : ℕ) → s < graph_len graph → goes s X n → Along steps_by s X n
  steps_on s X n below go = target_on s X n (step_decided s X) below go

  merged_along : AreMerged g (graph_len graph) (sets_of graph) (Along steps_by)
  merged_along =
      merged_same g (graph_len graph) (sets_of graph) goes (Along steps_by) merged steps_on (λ s X n below is. target_back s X n (step_decided s X) is)

module _ (g : Grammar) (graph : Graph) (well : IsWellFormed g) (canonical : IsCanonical g graph) where
  abbrev Gotos : ℕ → GrammarSymbol → ℕ → Type 0
  Gotos = CanonicalGoes g (graph_len graph) (sets_of graph)

  -- the transitions, as a function
  abbrev pub steps : ℕ → GrammarSymbol → Option ℕ
  steps = steps_by g graph Gotos (canonical_sets_are_merged g graph well canonical)

  pub merged_sets : AreMerged g (graph_len graph) (sets_of graph) (Along steps)
  merged_sets = merged_along g graph Gotos (canonical_sets_are_merged g graph well canonical)

  -- the goto by a symbol after a dot is along them
  goto_along : (s : ℕ) (X : GrammarSymbol) (n : ℕ) → s < graph_len graph → HasAfterDot g (sets_of graph) s X → LeadsTo g (sets_of graph) s X n
      → Along steps s X n
  goto_along s X n below before to =
      let x = before.0 in
      let y = item_at x.prod (x.dot + 1) x.token in
      let there = (to y).1 (Own y (x, before.1, before.2, refl)) in
      steps_on g graph Gotos (canonical_sets_are_merged g graph well canonical) s X n below
      (before, state_in_range graph n x.prod (x.dot + 1) x.token there, to)

  module _ (table : Table) where
    merged_acts : (s t : ℕ) → s < graph_len graph → ActsAsResolved g (sets_of graph) table s t
        → ActsAsMerged g (sets_of graph) (Along steps) table s t
    merged_acts s t below acts = record {
      shifts = λ before. let shift = acts.shifts before in (shift.0, shift.1, goto_along s (Terminal t) shift.0 below before shift.2);
      reduces = acts.reduces;
      accepts = acts.accepts;
      fails = acts.fails;
    }

    merged_acts_by : (lists : PrecedenceLists) (s t : ℕ) → s < graph_len graph → ActsByPrecedence g lists (sets_of graph) table s t
        → ActsAsMergedBy g lists (sets_of graph) (Along steps) table s t
    merged_acts_by lists s t below acts = record {
      meets = λ before p first.
          let met = acts.meets before p first in (met.0, met.1, goto_along s (Terminal t) met.0 below before met.2);
      shifts = λ before no_reduction.
          let shift = acts.shifts before no_reduction in (shift.0, shift.1, goto_along s (Terminal t) shift.0 below before shift.2);
      reduces = acts.reduces;
      accepts = acts.accepts;
      fails = acts.fails;
    }

    merged_gotos : (s r : ℕ) → s < graph_len graph → GoesAsItems g (sets_of graph) table s r
        → GoesAsMerged g (sets_of graph) (Along steps) table s r
    merged_gotos s r below goes = record {
      goes_on = λ before. let goto = goes.goes before in (goto.0, goto.1, goto_along s (Nonterminal r) goto.0 below before goto.2);
      stays = goes.stays;
    }

    merged_table : IsCanonicalTable g graph table → IsMergedTable g graph table (Along steps)
    merged_table is =
        let below : (s : ℕ) → s < states_len table → s < graph_len graph =
        λ s within. let same = is.states in omega (arith, within, same) in
        record {
          states = is.states;
          start = is.start;
          tokens = is.tokens;
          rules = is.rules;
          acts = λ s t within known. merged_acts s t (below s within) (is.acts s t within known);
          gotos = λ s r within known. merged_gotos s r (below s within) (is.goes s r within known);
          no_state = is.no_state;
          no_token = is.no_token;
          no_rule = is.no_rule;
        }

    merged_table_by : (lists : PrecedenceLists) → IsCanonicalTableBy g lists graph table → IsMergedTableBy g lists graph table (Along steps)
    merged_table_by lists is =
        let below : (s : ℕ) → s < states_len table → s < graph_len graph =
        λ s within. let same = is.states in omega (arith, within, same) in
        record {
          states = is.states;
          start = is.start;
          tokens = is.tokens;
          rules = is.rules;
          acts = λ s t within known. merged_acts_by lists s t (below s within) (is.acts s t within known);
          gotos = λ s r within known. merged_gotos s r (below s within) (is.goes s r within known);
          no_state = is.no_state;
          no_token = is.no_token;
          no_rule = is.no_rule;
        }

pub built_tables_are_merged : BuiltTablesAreMerged
built_tables_are_merged g graph table well built = record {
  steps = steps g graph well built.canonical;
  merged = merged_sets g graph well built.canonical;
  resolved = merged_table g graph well built.canonical table built.resolved;
  conflicts = built.conflicts;
  in_order = built.in_order;
  accept_alone = built.accept_alone;
}

pub built_by_tables_are_merged_by : BuiltByTablesAreMergedBy
built_by_tables_are_merged_by g lists graph table well built = record {
  steps = steps g graph well built.canonical;
  merged = merged_sets g graph well built.canonical;
  resolution = merged_table_by g graph well built.canonical table lists built.resolution;
  conflicts = built.conflicts;
  in_order = built.in_order;
  resolved = built.resolved;
  resolved_in_order = built.resolved_in_order;
  accept_alone = built.accept_alone;
}
