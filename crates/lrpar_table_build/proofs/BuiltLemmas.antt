-- A graph and a table of the states are built right.
use Rattle.std.proofs.Common.{◌≡◌, ◌<◌, ◌↔◌, ◌∷◌, refl, sym, subst, ℕ, List, [], length}
use Rattle.std.specs.List.{Contains}
use Rattle.std.proofs.lemmas.List.{length-map}
use Rattle.lrpar_grammar.specs.Grammar.{Grammar, IsWellFormed, tokens_len}
use Rattle.lrpar_table_precedence.specs.Precedence.{PrecedenceLists, no_precedences}
use Rattle.lrpar_table_rows.specs.ConflictsFit.{ReductionsFit, ShiftFits}
use Rattle.lrpar_table_rows.specs.Graph.{Graph, HasItem, graph_len}
use Rattle.lrpar_table_rows.specs.Table.{ResolvedOf, Table}
use Rattle.lrpar_table_build.specs.BuilderLaws.{AreConflictsOf, IsCanonicalTableBy, lists_in}
use Rattle.lrpar_table_build.specs.Built.{IsBuildRefusal, IsBuilt, IsBuiltBy, ResolvedFits}
use Rattle.lrpar_table_items.specs.Canonical.{AreCanonical, AreSame, IsCanonical, LeadsTo, sets_of}
use Rattle.lrpar_table_items.specs.StateRows.{IsRefusalOf, IsRefusedState, item_rows, table_of_states}
use Rattle.lrpar_table_items.specs.States.{AreStates, StateOf, sets_at, state_at}
use Rattle.lrpar_table_items.specs.Resolution.{IsAcceptReduce}
use Rattle.lrpar_table_items.specs.declared.fault.BuildFault.{BuildFault}
use Rattle.lrpar_table_items.specs.declared.fault.BuildFault.TheVariants.{AcceptReduceConflict, Memory, StorageTooSmall, TooManyStates}
use Rattle.lrpar_table_build.proofs.AlongLemmas.{built_along, graph_sets, refused_conflict}
use Rattle.lrpar_table_build.proofs.ConflictLemmas.{all_contained, no_conflicts_are_one_action, reductions_fit, shift_fits}
use Rattle.lrpar_table_build.proofs.DecidedLemmas.{acts_without}
use Rattle.lrpar_table_build.proofs.MemberLemmas.{member_first}
use Rattle.lrpar_table_build.proofs.SafeLemmas.{tables_by_precedence_are_safe}
use Rattle.lrpar_table_build.proofs.SetLemmas.{canonical_same, rows_same}
use Rattle.lrpar_table_build.proofs.StateLemmas.{states_along, states_tokens}
use Rattle.lrpar_table_build.proofs.StepLemmas.{IsTableAlong}

-- the rows of the states are a graph with the canonical collection
rows_canonical : (g : Grammar) → IsWellFormed g → (states : List StateOf) → AreStates g states → IsCanonical g (item_rows g states)
rows_canonical g well states are =
    let len : graph_len (item_rows g states) ≡ length states = length-map states _ in
    subst (λ n. AreCanonical g n (sets_of (item_rows g states))) (sym len)
    (canonical_same g (sets_of (item_rows g states)) (sets_at states) (rows_same g states (states_tokens g well states are)) (length states) are.canonical)

-- what a refusal of a state says
pub build_refusal : (g : Grammar) → IsWellFormed g → (states : List StateOf) → AreStates g states → (most limit : ℕ) (fault : BuildFault)
    → IsRefusalOf (length states) (IsRefusedState g states) fault → IsBuildRefusal g most limit fault
build_refusal g well states are most limit (AcceptReduceConflict n) h =
    let rows = item_rows g states in
    let len : graph_len rows ≡ length states = length-map states _ in
    let same = rows_same g states (states_tokens g well states are) in (
      rows,
      rows_canonical g well states are,
      subst (λ k. n < k) (sym len) h.0,
      refused_conflict g well states (LeadsTo g (sets_of rows)) (states_along g well states are (sets_of rows) same) (sets_of rows) same n h.0 h.1,
    )
build_refusal g well states are most limit Memory h = tt
build_refusal g well states are most limit TooManyStates h = absurd h
build_refusal g well states are most limit StorageTooSmall h = absurd h

-- a table whose transitions go along the gotos is that of the canonical collection
canonical_table : (g : Grammar) (precedences : PrecedenceLists) (graph : Graph) (table : Table) → IsTableAlong g precedences graph table (LeadsTo g (sets_of graph))
    → IsCanonicalTableBy g precedences graph table
canonical_table g precedences graph table along = record {
  states = along.states;
  start = along.start;
  tokens = along.tokens;
  rules = along.rules;
  acts = λ s t below within.
      let acts = along.acts s t below within in
      record { meets = acts.meets; shifts = acts.shifts; reduces = acts.reduces; accepts = acts.accepts; fails = acts.fails };
  goes = λ s r below within. let gotos = along.gotos s r below within in record { goes = gotos.goes_on; stays = gotos.stays };
  no_state = along.no_state;
  no_token = along.no_token;
  no_rule = along.no_rule;
}

module _ (precedences : PrecedenceLists) (g : Grammar) (well : IsWellFormed g) (states : List StateOf) (are : AreStates g states) (graph : Graph)
    (len : graph_len graph ≡ length states) (items : (s p k t : ℕ) → HasItem graph s p k t ↔ HasItem (item_rows g states) s p k t) where
  same_sets : (s : ℕ) → AreSame (sets_of graph s) (sets_at states s)
  same_sets = graph_sets g states (states_tokens g well states are) graph items

  graph_canonical : IsCanonical g graph
  graph_canonical =
      subst (λ n. AreCanonical g n (sets_of graph)) (sym len) (canonical_same g (sets_of graph) (sets_at states) same_sets (length states) are.canonical)

  -- so both are built
  pub is_built : ((s t : ℕ) → s < length states → t < tokens_len g → ¬ (IsAcceptReduce g (state_at states s).cores (state_at states s).shifts t))
      → IsBuiltBy g precedences graph (table_of_states precedences g states)
  is_built none =
      let table = table_of_states precedences g states in
      let lists = lists_in table.conflicts in
      let made = built_along g well states (LeadsTo g (sets_of graph)) (states_along g well states are (sets_of graph) same_sets) precedences graph len items none in
      let resolution = canonical_table g precedences graph table made.resolution in
      record {
        canonical = graph_canonical;
        resolution = resolution;
        safe = tables_by_precedence_are_safe g precedences graph table well graph_canonical resolution;
        conflicts = made.conflicts;
        in_order = made.in_order;
        fit = record {
          reduce_reduce = all_contained (ReductionsFit g) lists.reduce_reduce (λ x there.
              let found = (made.conflicts.reduce_reduce x).0 there in reductions_fit g graph well graph_canonical x found.0 found.1 found.2);
          shift_reduce = all_contained (ShiftFits g) lists.shift_reduce (λ x there.
              let found = (made.conflicts.shift_reduce x).0 there in shift_fits g graph well graph_canonical x found.0 found.2.0);
        };
        resolved = made.resolved;
        resolved_in_order = made.resolved_in_order;
        resolved_fit = all_contained (ResolvedFits g) table.resolved (λ x there.
            let found = (made.resolved x).0 there in shift_fits g graph well graph_canonical x.conflict found.0 found.2.0);
        accept_alone = made.accept_alone;
      }

-- without precedences nothing is resolved
none_resolved : (xs : List ResolvedOf) → ((x : ResolvedOf) → Contains xs x → ⊥) → xs ≡ []
none_resolved [] none = refl
none_resolved (x ∷ xs) none = absurd (none x (member_first x xs))

module _ (g : Grammar) (graph : Graph) (table : Table) (well : IsWellFormed g) (built : IsBuiltBy g no_precedences graph table) where
  pub nothing_resolved : table.resolved ≡ []
  nothing_resolved = none_resolved table.resolved (λ x there. let decided = ((built.resolved x).0 there).2.1 in absurd (cc))

  -- so the conflicts are all conflicts of the sets
  all_conflicts : AreConflictsOf g graph table.conflicts
  all_conflicts =
      let conflicts = built.conflicts in
      record {
        reduce_reduce = conflicts.reduce_reduce;
        shift_reduce = λ x. (
          λ h. let found = (conflicts.shift_reduce x).0 h in (found.0, found.1, found.2.0),
          λ h. (conflicts.shift_reduce x).1 (h.0, h.1, (h.2, refl)),
        );
        some = conflicts.some;
      }

  -- and what is built by no precedences is built without them
  pub built_without : IsBuilt g graph table
  built_without =
      let by = built.resolution in
      record {
        canonical = built.canonical;
        resolved = record {
          states = by.states;
          start = by.start;
          tokens = by.tokens;
          rules = by.rules;
          acts = λ s t below within. acts_without g graph s table t (by.acts s t below within);
          goes = by.goes;
          no_state = by.no_state;
          no_token = by.no_token;
          no_rule = by.no_rule;
        };
        safe = built.safe;
        conflicts = all_conflicts;
        in_order = built.in_order;
        fit = built.fit;
        no_conflicts = no_conflicts_are_one_action g graph table.conflicts well built.canonical all_conflicts built.accept_alone;
        accept_alone = built.accept_alone;
      }
