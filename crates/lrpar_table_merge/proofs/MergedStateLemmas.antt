-- A graph and a table that are made of states with merged item sets are merged ones. The transitions of the states are a function, which
-- their rows give.
use Rattle.std.proofs.Common.{◌≡◌, ◌<◌, ◌+◌, ◌↔◌, refl, sym, subst, arith, ℕ, List, Option, Some, None, length, nat_eq}
use Rattle.std.specs.Map.{lookup}
use Rattle.std.proofs.lemmas.List.{length-map}
use Rattle.lrpar_grammar.specs.Grammar.{Grammar, GrammarSymbol, IsWellFormed, Nonterminal, Terminal, start_prod, tokens_len}
use Rattle.lrpar_table_precedence.specs.Precedence.{PrecedenceLists}
use Rattle.lrpar_table_rows.specs.Graph.{Graph, HasItem, ItemOf, graph_len, item_at}
use Rattle.lrpar_table_rows.specs.Table.{Table}
use Rattle.lrpar_table_items.specs.Canonical.{AreSame, sets_of}
use Rattle.lrpar_table_items.specs.Resolution.{IsAcceptReduce}
use Rattle.lrpar_table_items.specs.StateRows.{IsRefusalOf, IsRefusedState, item_rows, table_of_states}
use Rattle.lrpar_table_items.specs.States.{StateOf, sets_at, state_at}
use Rattle.lrpar_table_items.specs.declared.fault.BuildFault.{BuildFault}
use Rattle.lrpar_table_items.specs.declared.fault.BuildFault.TheVariants.{AcceptReduceConflict, Memory, StorageTooSmall, TooManyStates}
use Rattle.lrpar_table_items.proofs.StatesLemmas.{same_back, same_via}
use Rattle.lrpar_table_build.proofs.AlongLemmas.{built_along, graph_sets, refused_conflict}
use Rattle.lrpar_table_build.proofs.SetLemmas.{before_other, before_same, same_on}
use Rattle.lrpar_table_build.proofs.StepLemmas.{AreStatesAlong, IsStepAlong, IsTableAlong}
use Rattle.lrpar_table_merge.specs.Distinct.{AreDistinct}
use Rattle.lrpar_table_merge.specs.Held.{IsHeld}
use Rattle.lrpar_table_merge.specs.Merged.{Along, AreMerged}
use Rattle.lrpar_table_merge.specs.MergedBy.{IsMergedBy, IsTableRefusal, IsMergedTableBy}
use Rattle.lrpar_table_merge.specs.MergedStates.{AreMergedStates, steps_of_states}
use Rattle.lrpar_table_merge.proofs.MergedHeldLemmas.{held_at_end, held_items}

-- sets with the same items as merged item sets are merged item sets, by the same transitions
merged_on : (g : Grammar) (len : ℕ) (sets others : ℕ → ItemOf → Type 0) (goes : ℕ → GrammarSymbol → ℕ → Type 0) → ((s : ℕ) → AreSame (sets s) (others s))
    → AreMerged g len others goes → AreMerged g len sets goes
merged_on g len sets others goes same merged = record {
  start = merged.start;
  some = λ s below. let one = merged.some s below in (one.0, (same s one.0).1 one.1);
  held = λ s below. same_on (sets s) (others s) (IsHeld g goes s) (same s) (merged.held s below);
  next = λ s X below before. merged.next s X below (before_other g sets others same s X before);
  step = λ s X n below go.
      let step = merged.step s X n below go in
      record {
        before = before_same g sets others same s X step.before;
        within = step.within;
        never_back = step.never_back;
        cores = λ p k t there.
            let from = step.cores p k t ((same n (item_at p (k + 1) t)).0 there) in
            (from.0, (from.1.0, (same s (item_at p k from.1.0)).1 from.1.1));
      };
  once = merged.once;
}

-- a table whose transitions go along the steps is that of the merged item sets
merged_table : (g : Grammar) (lists : PrecedenceLists) (graph : Graph) (table : Table) (goes : ℕ → GrammarSymbol → ℕ → Type 0) → IsTableAlong g lists graph table goes
    → IsMergedTableBy g lists graph table goes
merged_table g lists graph table goes along = record {
  states = along.states;
  start = along.start;
  tokens = along.tokens;
  rules = along.rules;
  acts = λ s t below within.
      let acts = along.acts s t below within in
      record { meets = acts.meets; shifts = acts.shifts; reduces = acts.reduces; accepts = acts.accepts; fails = acts.fails };
  gotos = λ s r below within. let gotos = along.gotos s r below within in record { goes_on = gotos.goes_on; stays = gotos.stays };
  no_state = along.no_state;
  no_token = along.no_token;
  no_rule = along.no_rule;
}

-- a transition of merged item sets is one along the steps
step_of_merged : (g : Grammar) (len : ℕ) (sets : ℕ → ItemOf → Type 0) (steps : ℕ → GrammarSymbol → Option ℕ) → AreMerged g len sets (Along steps)
    → (s : ℕ) (X : GrammarSymbol) (step : Option ℕ) → s < len → steps s X ≡ step → IsStepAlong g sets (Along steps) s X step
step_of_merged g len sets steps merged s X None below is = λ before.
    let to = merged.next s X below before in let there : steps s X ≡ Some to.0 = to.1 in absurd (cc)
step_of_merged g len sets steps merged s X (Some next) below is = ((merged.step s X next below is).before, is)

module _ (g : Grammar) (well : IsWellFormed g) (states : List StateOf) (are : AreMergedStates g states) where
  abbrev Goes : ℕ → GrammarSymbol → ℕ → Type 0
  Goes = Along (steps_of_states states)

  -- a state holds its items
  holds : (s : ℕ) (x : ItemOf) → s < length states → sets_at states s x → IsHeld g Goes s x
  holds s x below there = (are.merged.held s below x).0 there

  -- the lookaheads are tokens
  known_tokens : (s : ℕ) (x : ItemOf) → s < length states → sets_at states s x → x.token < tokens_len g
  known_tokens s x below there = (held_items g Goes well s x (holds s x below there)).token

  -- the transitions go along the rows
  merged_along : AreStatesAlong g states Goes
  merged_along = record {
    rows = are.rows;
    some = are.merged.start;
    tokens = known_tokens;
    at_end = λ s t below accepts. let item = item_at (start_prod g) 1 t in held_at_end g Goes well s item (holds s item below accepts) refl;
    gotos = λ s r below.
        step_of_merged g (length states) (sets_at states) (steps_of_states states) are.merged s (Nonterminal r) (lookup (nat_eq r) (state_at states s).gotos) below refl;
    shifts = λ s t below.
        step_of_merged g (length states) (sets_at states) (steps_of_states states) are.merged s (Terminal t) (lookup (nat_eq t) (state_at states s).shifts) below refl;
  }

  -- a graph with the items of the states has merged item sets
  graph_merged : (graph : Graph) → graph_len graph ≡ length states → ((s p k t : ℕ) → HasItem graph s p k t ↔ HasItem (item_rows g states) s p k t)
      → AreMerged g (graph_len graph) (sets_of graph) Goes
  graph_merged graph len items =
      subst (λ n. AreMerged g n (sets_of graph) Goes) (sym len)
      (merged_on g (length states) (sets_of graph) (sets_at states) Goes (graph_sets g states known_tokens graph items) are.merged)

  -- no two of its sets have the same items
  pub graph_distinct : (graph : Graph) → graph_len graph ≡ length states → ((s p k t : ℕ) → HasItem graph s p k t ↔ HasItem (item_rows g states) s p k t)
      → AreDistinct (graph_len graph) (sets_of graph)
  graph_distinct graph len items s n low below same =
      let set = sets_at states in
      let of = sets_of graph in
      let is = graph_sets g states known_tokens graph items in
      are.distinct s n (omega (arith, low, len)) (omega (arith, below, len))
      (same_via (set s) (of s) (set n) (same_back (of s) (set s) (is s)) (same_via (of s) (of n) (set n) same (is n)))

  -- and the table of the states is theirs
  pub states_merged_by : (lists : PrecedenceLists) (graph : Graph) (table : Table) → graph_len graph ≡ length states
      → ((s p k t : ℕ) → HasItem graph s p k t ↔ HasItem (item_rows g states) s p k t) → table ≡ table_of_states lists g states
      → ((s t : ℕ) → s < length states → t < tokens_len g → ¬ (IsAcceptReduce g (state_at states s).cores (state_at states s).shifts t))
      → IsMergedBy g lists graph table
  states_merged_by lists graph table len items is none =
      let made = built_along g well states Goes merged_along lists graph len items none in
      subst (IsMergedBy g lists graph) (sym is) (record {
        steps = steps_of_states states;
        merged = graph_merged graph len items;
        resolution = merged_table g lists graph (table_of_states lists g states) Goes made.resolution;
        conflicts = made.conflicts;
        in_order = made.in_order;
        resolved = made.resolved;
        resolved_in_order = made.resolved_in_order;
        accept_alone = made.accept_alone;
      })

  -- what a refusal of a state says
  pub merged_refusal : (fault : BuildFault) → IsRefusalOf (length states) (IsRefusedState g states) fault → IsTableRefusal g fault
  merged_refusal (AcceptReduceConflict n) h =
      let rows = item_rows g states in
      let len : graph_len rows ≡ length states = length-map states _ in
      let items : (s p k t : ℕ) → HasItem rows s p k t ↔ HasItem rows s p k t = λ s p k t. (λ there. there, λ there. there) in
      record {
        graph = rows;
        steps = steps_of_states states;
        merged = graph_merged rows len items;
        within = subst (λ k. n < k) (sym len) h.0;
        conflict = refused_conflict g well states Goes merged_along (sets_of rows) (graph_sets g states known_tokens rows items) n h.0 h.1;
      }
  merged_refusal Memory h = tt
  merged_refusal TooManyStates h = absurd h
  merged_refusal StorageTooSmall h = absurd h
