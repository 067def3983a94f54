-- The rows of a table, made from states: actions after conflict resolution, gotos, items and conflicts, state by state.
use Rattle.std.specs.Prelude.{◌<◌, ℕ, List, [], ◌∷◌, Option, Some, None, length, map}
use Rattle.std.specs.List.{flat_map, range_with_len}
use Rattle.lrpar_grammar.specs.Grammar.{Grammar, rules_len, tokens_len}
use Rattle.lrpar_table_rows.specs.Graph.{Graph}
use Rattle.lrpar_table_precedence.specs.Precedence.{PrecedenceLists}
use Rattle.lrpar_table_rows.specs.Table.{ConflictLists, ReduceReduce, ResolvedOf, ShiftReduce, Table, TableAction}
use Rattle.lrpar_table_items.specs.States.{StateOf, state_at}
use Rattle.lrpar_table_items.specs.Resolution.{HasAcceptReduce, reduce_conflicts, resolutions, shift_conflicts, resolved_row, unresolved}
use Rattle.lrpar_table_items.specs.CompleteItems.{items_of_cores}
use Rattle.lrpar_table_items.specs.declared.fault.BuildFault.{BuildFault}
use Rattle.lrpar_table_items.specs.declared.fault.BuildFault.TheVariants.{AcceptReduceConflict, Memory, StorageTooSmall, TooManyStates}

-- the actions of each state, without errors
abbrev pub action_rows : PrecedenceLists → Grammar → List StateOf → List (List (ℕ × TableAction))
action_rows lists g states = map (λ (state : StateOf). resolved_row lists g state.cores state.shifts) states

-- the gotos of each state
abbrev pub goto_rows : List StateOf → List (List (ℕ × ℕ))
goto_rows states = map (λ (state : StateOf). state.gotos) states

-- the items of each state
abbrev pub item_rows : Grammar → List StateOf → Graph
item_rows g states = map (λ (state : StateOf). items_of_cores (tokens_len g) state.cores) states

-- the reduce/reduce conflicts of the first n states
abbrev pub reduce_conflicts_below : Grammar → List StateOf → ℕ → List ReduceReduce
reduce_conflicts_below g states n = flat_map (λ s. reduce_conflicts g (state_at states s).cores s) (range_with_len 0 n)

-- the shift/reduce conflicts of the first n states, before they are resolved
abbrev pub shift_conflicts_below : Grammar → List StateOf → ℕ → List ShiftReduce
shift_conflicts_below g states n = flat_map (λ s. shift_conflicts g (state_at states s).cores (state_at states s).shifts s) (range_with_len 0 n)

-- the two lists, or none if both are empty
abbrev pub unless_empty : List ReduceReduce → List ShiftReduce → Option ConflictLists
unless_empty [] [] = None
unless_empty [] (x ∷ xs) = Some (record { reduce_reduce = []; shift_reduce = x ∷ xs })
unless_empty (x ∷ xs) ys = Some (record { reduce_reduce = x ∷ xs; shift_reduce = ys })

-- the conflicts of the states, if any are left
abbrev pub conflicts_of_states : PrecedenceLists → Grammar → List StateOf → Option ConflictLists
conflicts_of_states lists g states =
    unless_empty (reduce_conflicts_below g states (length states)) (unresolved lists (shift_conflicts_below g states (length states)))

-- the resolved conflicts of the states
abbrev pub resolved_of_states : PrecedenceLists → Grammar → List StateOf → List ResolvedOf
resolved_of_states lists g states = resolutions lists (shift_conflicts_below g states (length states))

-- a table of the states with these actions and conflicts; its start state is number 0
abbrev pub table_with : Grammar → List StateOf → List (List (ℕ × TableAction)) → Option ConflictLists → List ResolvedOf → Table
table_with g states actions conflicts resolved = record {
  start = 0;
  states = length states;
  tokens = tokens_len g;
  rules = rules_len g;
  actions = actions;
  gotos = goto_rows states;
  conflicts = conflicts;
  resolved = resolved;
}

-- the table of the states by these precedences
abbrev pub table_of_states : PrecedenceLists → Grammar → List StateOf → Table
table_of_states lists g states =
    table_with g states (action_rows lists g states) (conflicts_of_states lists g states) (resolved_of_states lists g states)

-- state s has an accept/reduce conflict: at some token it calls for accept and for a reduction, and for no shift
abbrev pub IsRefusedState : Grammar → List StateOf → ℕ → Type 0
IsRefusedState g states s = HasAcceptReduce g (state_at states s).cores (state_at states s).shifts

-- a fault: there is this reason to refuse the state that it names, which is below len, or an allocation failed
abbrev pub IsRefusalOf : ℕ → (ℕ → Type 0) → BuildFault → Type 0
IsRefusalOf len reason (AcceptReduceConflict n) = (n < len) × reason n
IsRefusalOf len reason Memory = Unit {0}
IsRefusalOf len reason TooManyStates = ⊥
IsRefusalOf len reason StorageTooSmall = ⊥
