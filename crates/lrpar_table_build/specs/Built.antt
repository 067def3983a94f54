-- The result of the table builder: the canonical collection of a grammar as the item sets of states, the canonical LR(1) table, and its
-- conflicts.
use Rattle.std.specs.Prelude.{◌≡◌, ◌<◌, ◌≤◌, ◌↔◌, ℕ, List, [], All, None}
use Rattle.std.specs.List.Sorted.{IsStrictlySortedBy}
use Rattle.std.specs.Ordering.{nat_cmp, ordering_then}
use Rattle.std.specs.declared.cmp.Ordering.{Ordering}
use Rattle.lrpar_grammar.specs.Grammar.{Grammar}
use Rattle.lrpar_table_precedence.specs.Precedence.{PrecedenceLists}
use Rattle.lrpar_table_rows.specs.ConflictsFit.{ConflictsFit, ShiftFits}
use Rattle.lrpar_table_rows.specs.Graph.{Graph, graph_len}
use Rattle.lrpar_table_rows.specs.Safe.{IsSafe}
use Rattle.lrpar_table_rows.specs.Table.{ConflictLists, ReduceReduce, ResolvedOf, ShiftReduce, Table}
use Rattle.lrpar_table_build.specs.BuilderLaws.{AcceptAlone, AreConflictsBy, AreConflictsOf, AreResolvedBy, IsCanonicalTable, IsCanonicalTableBy, HaveOneAction, lists_in}
use Rattle.lrpar_table_items.specs.Canonical.{IsAcceptConflict, IsCanonical, ReachesMore, sets_of}
use Rattle.lrpar_table_items.specs.declared.fault.BuildFault.{BuildFault}
use Rattle.lrpar_table_items.specs.declared.fault.BuildFault.TheVariants.{AcceptReduceConflict, Memory, StorageTooSmall, TooManyStates}

-- reduce/reduce conflicts are ordered by their states, then their tokens, then the second productions
abbrev pub reduce_reduce_cmp : ReduceReduce → ReduceReduce → Ordering
reduce_reduce_cmp x y = ordering_then (ordering_then (nat_cmp x.state y.state) (nat_cmp x.token y.token)) (nat_cmp x.second y.second)

-- shift/reduce conflicts are ordered by their states, then their tokens
abbrev pub shift_reduce_cmp : ShiftReduce → ShiftReduce → Ordering
shift_reduce_cmp x y = ordering_then (nat_cmp x.state y.state) (nat_cmp x.token y.token)

-- the conflicts are in order, each once
pub record AreInOrder (lists : ConflictLists) : Type 0 where
  pub reduce_reduce : IsStrictlySortedBy reduce_reduce_cmp lists.reduce_reduce
  pub shift_reduce : IsStrictlySortedBy shift_reduce_cmp lists.shift_reduce

-- the graph has the canonical collection, and the table its actions after conflict resolution, so it is safe; the table has the
-- conflicts, in order; they fit the grammar, and there are none exactly if no set calls for two different actions at one token; and
-- no set has an accept/reduce conflict
pub record IsBuilt (g : Grammar) (graph : Graph) (table : Table) : Type 0 where
  pub canonical : IsCanonical g graph
  pub resolved : IsCanonicalTable g graph table
  pub safe : IsSafe g graph table
  pub conflicts : AreConflictsOf g graph table.conflicts
  pub in_order : AreInOrder (lists_in table.conflicts)
  pub fit : ConflictsFit g (lists_in table.conflicts)
  pub no_conflicts : (table.conflicts ≡ None) ↔ HaveOneAction g (graph_len graph) (sets_of graph)
  pub accept_alone : AcceptAlone g (graph_len graph) (sets_of graph)

-- the resolved conflicts are in order, each once
abbrev pub AreResolvedInOrder : List ResolvedOf → Type 0
AreResolvedInOrder resolved = IsStrictlySortedBy (λ x y. shift_reduce_cmp x.conflict y.conflict) resolved

-- a resolved conflict fits: its token, other than the end token, and its production are of the grammar
abbrev pub ResolvedFits : Grammar → ResolvedOf → Type 0
ResolvedFits g x = ShiftFits g x.conflict

-- the graph has the canonical collection, and the table its actions after conflict resolution by the precedences, so it is safe; the
-- table has the conflicts that the precedences don't resolve, and those that they do, in order; they fit the grammar; and no set has
-- an accept/reduce conflict
pub record IsBuiltBy (g : Grammar) (precedences : PrecedenceLists) (graph : Graph) (table : Table) : Type 0 where
  pub canonical : IsCanonical g graph
  pub resolution : IsCanonicalTableBy g precedences graph table
  pub safe : IsSafe g graph table
  pub conflicts : AreConflictsBy g precedences graph table.conflicts
  pub in_order : AreInOrder (lists_in table.conflicts)
  pub fit : ConflictsFit g (lists_in table.conflicts)
  pub resolved : AreResolvedBy g precedences graph table.resolved
  pub resolved_in_order : AreResolvedInOrder table.resolved
  pub resolved_fit : All (ResolvedFits g) table.resolved
  pub accept_alone : AcceptAlone g (graph_len graph) (sets_of graph)

-- number n of the canonical collection has an accept/reduce conflict
abbrev pub HasAcceptConflict : Grammar → ℕ → Type 0
HasAcceptConflict g n = (graph : Graph) × IsCanonical g graph × (n < graph_len graph) × IsAcceptConflict g (sets_of graph) n

-- why no table is built, if `most` states are allowed and the storage type has `limit` numbers
abbrev pub IsBuildRefusal : Grammar → ℕ → ℕ → BuildFault → Type 0
IsBuildRefusal g most limit TooManyStates = ReachesMore g most
IsBuildRefusal g most limit StorageTooSmall = ReachesMore g limit
IsBuildRefusal g most limit (AcceptReduceConflict n) = HasAcceptConflict g n
IsBuildRefusal g most limit Memory = Unit {0}

-- a graph and a table that are built for the grammar
abbrev pub AreBuilt : Grammar → Graph × Table → Type 0
AreBuilt g built = IsBuilt g built.0 built.1

-- a graph and a table that are built for the grammar, by the precedences
abbrev pub AreBuiltBy : Grammar → PrecedenceLists → Graph × Table → Type 0
AreBuiltBy g precedences built = IsBuiltBy g precedences built.0 built.1

-- the graph has at most this number of states
abbrev pub HaveAtMost : ℕ → Graph × Table → Type 0
HaveAtMost most built = graph_len built.0 ≤ most

-- the graph has this number of states
abbrev pub HaveStates : ℕ → Graph × Table → Type 0
HaveStates n built = graph_len built.0 ≡ n

-- the table has no resolved conflicts
abbrev pub HaveNoneResolved : Graph × Table → Type 0
HaveNoneResolved built = built.1.resolved ≡ []
