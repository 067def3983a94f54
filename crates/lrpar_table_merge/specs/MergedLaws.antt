-- What follows for a table of merged item sets.
use Rattle.std.specs.Prelude.{◌≡◌, ◌↔◌, ℕ, List, Option, None}
use Rattle.lrpar_grammar.specs.Grammar.{Grammar, GrammarSymbol, IsWellFormed}
use Rattle.lrpar_table_rows.specs.ConflictsFit.{ConflictsFit}
use Rattle.lrpar_table_rows.specs.Graph.{Graph, ItemOf, graph_len}
use Rattle.lrpar_table_rows.specs.Safe.{IsSafe}
use Rattle.lrpar_table_rows.specs.Table.{Table}
use Rattle.lrpar_table_items.specs.Canonical.{IsCanonical, sets_of}
use Rattle.lrpar_table_items.specs.ItemSets.{IsReachedBy}
use Rattle.lrpar_table_build.specs.Built.{IsBuilt}
use Rattle.lrpar_table_build.specs.BuilderLaws.{lists_in}
use Rattle.lrpar_table_conditions.specs.Complete.{IsComplete}
use Rattle.lrpar_table_viable.specs.Viable.{IsViable}
use Rattle.lrpar_table_merge.specs.Merged.{Along, AreMerged, CanonicalGoes, IsMerged, IsMergedTable, IsWithin}

-- the canonical collection is one of merged item sets, by its gotos
abbrev pub CanonicalSetsAreMerged : Type 0
CanonicalSetsAreMerged =
    (g : Grammar) (graph : Graph) → IsWellFormed g → IsCanonical g graph
    → AreMerged g (graph_len graph) (sets_of graph) (CanonicalGoes g (graph_len graph) (sets_of graph))

-- a table that is built of a grammar is one of merged item sets
abbrev pub BuiltTablesAreMerged : Type 0
BuiltTablesAreMerged = (g : Grammar) (graph : Graph) (table : Table) → IsWellFormed g → IsBuilt g graph table → IsMerged g graph table

-- a table of merged item sets is safe
abbrev pub MergedTablesAreSafe : Type 0
MergedTablesAreSafe =
    (g : Grammar) (graph : Graph) (table : Table) (steps : ℕ → GrammarSymbol → Option ℕ) → IsWellFormed g
    → AreMerged g (graph_len graph) (sets_of graph) (Along steps) → IsMergedTable g graph table (Along steps) → IsSafe g graph table

-- a table of merged item sets is viable
abbrev pub MergedTablesAreViable : Type 0
MergedTablesAreViable =
    (g : Grammar) (graph : Graph) (table : Table) (steps : ℕ → GrammarSymbol → Option ℕ)
    → AreMerged g (graph_len graph) (sets_of graph) (Along steps) → IsMergedTable g graph table (Along steps) → IsViable g graph table

-- a table of merged item sets is complete if and only if it has no conflicts
abbrev pub MergedTablesAreCompleteWithoutConflicts : Type 0
MergedTablesAreCompleteWithoutConflicts =
    (g : Grammar) (graph : Graph) (table : Table) → IsWellFormed g → IsMerged g graph table → IsComplete g graph table ↔ (table.conflicts ≡ None)

-- the conflicts of a table of merged item sets fit the grammar
abbrev pub MergedConflictsFit : Type 0
MergedConflictsFit =
    (g : Grammar) (graph : Graph) (table : Table) → IsWellFormed g → IsMerged g graph table → ConflictsFit g (lists_in table.conflicts)

-- each canonical item set is within a merged one: if gotos reach an item by a path, the path leads to a state with all items that they
-- reach by it
abbrev pub CanonicalSetsAreWithinMerged : Type 0
CanonicalSetsAreWithinMerged =
    (g : Grammar) (graph : Graph) (steps : ℕ → GrammarSymbol → Option ℕ) → AreMerged g (graph_len graph) (sets_of graph) (Along steps)
    → (path : List GrammarSymbol) (x : ItemOf) → IsReachedBy g path x
    → (s : ℕ) × IsWithin g (graph_len graph) (sets_of graph) (Along steps) path s

-- if a merged table has no conflicts, the canonical table of the grammar has none: the grammar is LR(1)
abbrev pub NoMergedConflictsAreNoCanonical : Type 0
NoMergedConflictsAreNoCanonical =
    (g : Grammar) (graph : Graph) (table : Table) (other : Graph) (other_table : Table) → IsWellFormed g → IsMerged g graph table
    → table.conflicts ≡ None → IsBuilt g other other_table → other_table.conflicts ≡ None
