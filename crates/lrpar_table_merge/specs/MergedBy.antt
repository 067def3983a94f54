-- Tables of merged item sets whose conflicts are resolved by precedences.
use Rattle.std.specs.Prelude.{◌≡◌, ◌<◌, ℕ, Option}
use Rattle.lrpar_grammar.specs.Grammar.{Grammar, GrammarSymbol, Terminal}
use Rattle.lrpar_table_precedence.specs.Precedence.{PrecedenceLists, resolution_of}
use Rattle.lrpar_table_rows.specs.Graph.{Graph, ItemOf, graph_len}
use Rattle.lrpar_table_rows.specs.Table.{Table, ShiftTo, action_of}
use Rattle.lrpar_table_items.specs.Canonical.{HasAfterDot, HasFirstReduce, HasReduce, IsAcceptConflict, sets_of}
use Rattle.lrpar_table_items.specs.Resolution.{chosen}
use Rattle.lrpar_table_items.specs.declared.fault.BuildFault.{BuildFault}
use Rattle.lrpar_table_items.specs.declared.fault.BuildFault.TheVariants.{AcceptReduceConflict, Memory, StorageTooSmall, TooManyStates}
use Rattle.lrpar_table_build.specs.Built.{AreInOrder, AreResolvedInOrder}
use Rattle.lrpar_table_build.specs.BuilderLaws.{AcceptAlone, AreConflictsBy, AreResolvedBy, lists_in}
use Rattle.lrpar_table_merge.specs.Merged.{AcceptsOtherwise, Along, AreMerged, FailsOtherwise, IsTableOfMerged, ReducesOtherwise}

-- the action of state s at token t is what conflict resolution with precedences gives. If items call for a shift and for a reduction,
-- it is what the precedences decide between the shift and the reduction by the least production, and the shift, if they decide
-- nothing. Otherwise it is the shift along the transition, if items call for one; the reduction by the least production; accept; or an
-- error
pub record ActsAsMergedBy (g : Grammar) (lists : PrecedenceLists) (sets : ℕ → ItemOf → Type 0) (goes : ℕ → GrammarSymbol → ℕ → Type 0) (table : Table) (s t : ℕ) : Type 0 where
  pub meets : HasAfterDot g sets s (Terminal t) → (p : ℕ) → HasFirstReduce g sets s t p
      → (next : ℕ) × (action_of table s t ≡ chosen (resolution_of lists p t) next p) × goes s (Terminal t) next
  pub shifts : HasAfterDot g sets s (Terminal t) → ((p : ℕ) → ¬ (HasReduce g sets s t p))
      → (next : ℕ) × (action_of table s t ≡ ShiftTo next) × goes s (Terminal t) next
  pub reduces : ReducesOtherwise g sets table s t
  pub accepts : AcceptsOtherwise g sets table s t
  pub fails : FailsOtherwise g sets table s t

-- the table is one of merged item sets, and each state has the actions of its set after conflict resolution by precedences
abbrev pub IsMergedTableBy : Grammar → PrecedenceLists → Graph → Table → (ℕ → GrammarSymbol → ℕ → Type 0) → Type 0
IsMergedTableBy g lists graph table goes = IsTableOfMerged (ActsAsMergedBy g lists (sets_of graph) goes table) g graph table goes

-- with some transitions, the graph has merged item sets, and the table their actions after conflict resolution by the precedences; the
-- table has the conflicts of the sets that the precedences don't resolve, and those that they do, in order; and no set has an
-- accept/reduce conflict
pub record IsMergedBy (g : Grammar) (lists : PrecedenceLists) (graph : Graph) (table : Table) : Type 0 where
  pub steps : ℕ → GrammarSymbol → Option ℕ
  pub merged : AreMerged g (graph_len graph) (sets_of graph) (Along steps)
  pub resolution : IsMergedTableBy g lists graph table (Along steps)
  pub conflicts : AreConflictsBy g lists graph table.conflicts
  pub in_order : AreInOrder (lists_in table.conflicts)
  pub resolved : AreResolvedBy g lists graph table.resolved
  pub resolved_in_order : AreResolvedInOrder table.resolved
  pub accept_alone : AcceptAlone g (graph_len graph) (sets_of graph)

-- state n of some merged item sets, with some transitions, has an accept/reduce conflict
pub record HasMergedAcceptConflict (g : Grammar) (n : ℕ) : Type 0 where
  pub graph : Graph
  pub steps : ℕ → GrammarSymbol → Option ℕ
  pub merged : AreMerged g (graph_len graph) (sets_of graph) (Along steps)
  pub within : n < graph_len graph
  pub conflict : IsAcceptConflict g (sets_of graph) n

-- why no table is made of merged item sets: one has an accept/reduce conflict, or an allocation failed
abbrev pub IsTableRefusal : Grammar → BuildFault → Type 0
IsTableRefusal g (AcceptReduceConflict n) = HasMergedAcceptConflict g n
IsTableRefusal g Memory = Unit {0}
IsTableRefusal g TooManyStates = ⊥
IsTableRefusal g StorageTooSmall = ⊥

-- a graph and a table that are merged by the precedences
abbrev pub AreMergedBy : Grammar → PrecedenceLists → Graph × Table → Type 0
AreMergedBy g lists built = IsMergedBy g lists built.0 built.1
