-- Canonical tables, their conflicts, and what follows: such a table is safe.
use Rattle.std.specs.Prelude.{◌≡◌, ◌<◌, ◌≤◌, ◌↔◌, ℕ, List, [], Contains, Option, Some, None}
use Rattle.lrpar_grammar.specs.Grammar.{Grammar, IsWellFormed, Terminal, rules_len, tokens_len}
use Rattle.lrpar_table_precedence.specs.Precedence.{PrecedenceLists}
use Rattle.lrpar_table_rows.specs.ConflictsFit.{ConflictsFit}
use Rattle.lrpar_table_rows.specs.Graph.{Graph, ItemOf, graph_len}
use Rattle.lrpar_table_rows.specs.Safe.{IsSafe}
use Rattle.lrpar_table_rows.specs.Table.{ConflictLists, ReduceReduce, ResolvedOf, ShiftReduce, Table, TableAction, ShiftTo, ReduceBy, Accepts, Fails, action_of, goto_of, states_len}
use Rattle.lrpar_table_items.specs.Canonical.{ActsAsResolved, ActsByPrecedence, GoesAsItems, IsAcceptConflict, IsCanonical, IsReduceConflict, IsResolvedConflict, IsShiftConflict, IsTransition, IsUnresolvedConflict, HasAccept, HasReduce, sets_of}

-- the table has a state for each set of the graph, and starts in number 0; it has the grammar's tokens and rules; each state has the
-- actions of its set after conflict resolution, and the set's gotos; and past its states, tokens and rules it has no entries
pub record IsCanonicalTable (g : Grammar) (graph : Graph) (table : Table) : Type 0 where
  pub states : graph_len graph ≡ states_len table
  pub start : table.start ≡ 0
  pub tokens : table.tokens ≡ tokens_len g
  pub rules : table.rules ≡ rules_len g
  pub acts : (s t : ℕ) → s < states_len table → t < tokens_len g → ActsAsResolved g (sets_of graph) table s t
  pub goes : (s r : ℕ) → s < states_len table → r < rules_len g → GoesAsItems g (sets_of graph) table s r
  pub no_state : (s t : ℕ) → states_len table ≤ s → action_of table s t ≡ Fails
  pub no_token : (s t : ℕ) → table.tokens ≤ t → action_of table s t ≡ Fails
  pub no_rule : (s r : ℕ) → table.rules ≤ r → goto_of table s r ≡ None

-- the table has a state for each set of the graph, and starts in number 0; it has the grammar's tokens and rules; each state has the
-- actions of its set after conflict resolution by precedences, and the set's gotos; and past its states, tokens and rules it has no
-- entries
pub record IsCanonicalTableBy (g : Grammar) (precedences : PrecedenceLists) (graph : Graph) (table : Table) : Type 0 where
  pub states : graph_len graph ≡ states_len table
  pub start : table.start ≡ 0
  pub tokens : table.tokens ≡ tokens_len g
  pub rules : table.rules ≡ rules_len g
  pub acts : (s t : ℕ) → s < states_len table → t < tokens_len g → ActsByPrecedence g precedences (sets_of graph) table s t
  pub goes : (s r : ℕ) → s < states_len table → r < rules_len g → GoesAsItems g (sets_of graph) table s r
  pub no_state : (s t : ℕ) → states_len table ≤ s → action_of table s t ≡ Fails
  pub no_token : (s t : ℕ) → table.tokens ≤ t → action_of table s t ≡ Fails
  pub no_rule : (s r : ℕ) → table.rules ≤ r → goto_of table s r ≡ None

-- a table of the canonical collection of a grammar is safe
abbrev pub CanonicalTablesAreSafe : Type 0
CanonicalTablesAreSafe =
    (g : Grammar) (graph : Graph) (table : Table) → IsWellFormed g → IsCanonical g graph → IsCanonicalTable g graph table
    → IsSafe g graph table

-- a table of the canonical collection, with conflicts that precedences resolve, is safe
abbrev pub TablesByPrecedenceAreSafe : Type 0
TablesByPrecedenceAreSafe =
    (g : Grammar) (precedences : PrecedenceLists) (graph : Graph) (table : Table) → IsWellFormed g → IsCanonical g graph
    → IsCanonicalTableBy g precedences graph table → IsSafe g graph table

-- an action before conflict resolution: set s, one of len, calls for the action at token t
abbrev pub HasAction : Grammar → ℕ → (ℕ → ItemOf → Type 0) → ℕ → ℕ → TableAction → Type 0
HasAction g len sets s t (ShiftTo next) = IsTransition g len sets s (Terminal t) (Some next)
HasAction g len sets s t (ReduceBy p) = HasReduce g sets s t p
HasAction g len sets s t Accepts = HasAccept g sets s t
HasAction g len sets s t Fails = ⊥

-- none of the len sets calls for two different actions at one token
abbrev pub HaveOneAction : Grammar → ℕ → (ℕ → ItemOf → Type 0) → Type 0
HaveOneAction g len sets = (s t : ℕ) (a b : TableAction) → s < len → HasAction g len sets s t a → HasAction g len sets s t b → a ≡ b

-- none of the len sets has an accept/reduce conflict
abbrev pub AcceptAlone : Grammar → ℕ → (ℕ → ItemOf → Type 0) → Type 0
AcceptAlone g len sets = (s : ℕ) → s < len → ¬ (IsAcceptConflict g sets s)

-- the lists of conflicts, or empty lists
abbrev pub lists_in : Option ConflictLists → ConflictLists
lists_in (Some lists) = lists
lists_in None = record { reduce_reduce = []; shift_reduce = [] }

-- the lists have the conflicts of the graph's sets, and no others; if there are none, there are no lists
pub record AreConflictsOf (g : Grammar) (graph : Graph) (conflicts : Option ConflictLists) : Type 0 where
  pub reduce_reduce : (x : ReduceReduce) → Contains (lists_in conflicts).reduce_reduce x
      ↔ ((x.state < graph_len graph) × (x.token < tokens_len g) × IsReduceConflict g (sets_of graph) x)
  pub shift_reduce : (x : ShiftReduce) → Contains (lists_in conflicts).shift_reduce x
      ↔ ((x.state < graph_len graph) × (x.token < tokens_len g) × IsShiftConflict g (sets_of graph) x)
  pub some : (lists : ConflictLists) → conflicts ≡ Some lists → lists.reduce_reduce ≡ [] → lists.shift_reduce ≡ [] → ⊥

-- the lists have the conflicts of the graph's sets that precedences don't resolve, and no others; if there are none, there are no lists
pub record AreConflictsBy (g : Grammar) (precedences : PrecedenceLists) (graph : Graph) (conflicts : Option ConflictLists) : Type 0 where
  pub reduce_reduce : (x : ReduceReduce) → Contains (lists_in conflicts).reduce_reduce x
      ↔ ((x.state < graph_len graph) × (x.token < tokens_len g) × IsReduceConflict g (sets_of graph) x)
  pub shift_reduce : (x : ShiftReduce) → Contains (lists_in conflicts).shift_reduce x
      ↔ ((x.state < graph_len graph) × (x.token < tokens_len g) × IsUnresolvedConflict g precedences (sets_of graph) x)
  pub some : (lists : ConflictLists) → conflicts ≡ Some lists → lists.reduce_reduce ≡ [] → lists.shift_reduce ≡ [] → ⊥

-- the list has the conflicts of the graph's sets that precedences resolve, each with how they resolve it, and no others
abbrev pub AreResolvedBy : Grammar → PrecedenceLists → Graph → List ResolvedOf → Type 0
AreResolvedBy g precedences graph resolved =
    (x : ResolvedOf) → Contains resolved x
    ↔ ((x.conflict.state < graph_len graph) × (x.conflict.token < tokens_len g) × IsResolvedConflict g precedences (sets_of graph) x)

-- a canonical collection without accept/reduce conflicts has no conflicts exactly if no set calls for two different actions at one
-- token
abbrev pub NoConflictsAreOneAction : Type 0
NoConflictsAreOneAction =
    (g : Grammar) (graph : Graph) (conflicts : Option ConflictLists) → IsWellFormed g → IsCanonical g graph
    → AreConflictsOf g graph conflicts → AcceptAlone g (graph_len graph) (sets_of graph)
    → (conflicts ≡ None) ↔ HaveOneAction g (graph_len graph) (sets_of graph)

-- the listed conflicts of a canonical collection fit the grammar
abbrev pub CanonicalConflictsFit : Type 0
CanonicalConflictsFit =
    (g : Grammar) (graph : Graph) (conflicts : Option ConflictLists) → IsWellFormed g → IsCanonical g graph
    → AreConflictsOf g graph conflicts → ConflictsFit g (lists_in conflicts)
