-- What follows for a table of merged item sets whose conflicts are resolved by precedences.
use Rattle.std.specs.Prelude.{◌≡◌, ◌↔◌, ℕ, List, [], All, Option, Some, None, slice_get}
use Rattle.lrpar_grammar.specs.Grammar.{Grammar, GrammarSymbol, IsWellFormed, Terminal, prod_len, symbols_of}
use Rattle.lrpar_table_precedence.specs.Precedence.{PrecedenceLists, resolution_of}
use Rattle.lrpar_table_rows.specs.ConflictsFit.{ConflictsFit}
use Rattle.lrpar_table_rows.specs.Graph.{Graph, ItemOf, graph_len, item_at}
use Rattle.lrpar_table_rows.specs.Safe.{IsSafe}
use Rattle.lrpar_table_rows.specs.Table.{Table}
use Rattle.lrpar_table_items.specs.Canonical.{HasAfterDot, HasReduce, sets_of}
use Rattle.lrpar_table_items.specs.ItemSets.{IsReachedBy}
use Rattle.lrpar_table_build.specs.Built.{IsBuiltBy, ResolvedFits}
use Rattle.lrpar_table_build.specs.BuilderLaws.{lists_in}
use Rattle.lrpar_table_viable.specs.Viable.{IsViable}
use Rattle.lrpar_table_merge.specs.Merged.{Along, AreMerged, IsMerged, LeadsAlong}
use Rattle.lrpar_table_merge.specs.MergedBy.{IsMergedBy, IsMergedTableBy}

-- a table of merged item sets is safe, whatever precedences resolve its conflicts
abbrev pub MergedTablesByPrecedencesAreSafe : Type 0
MergedTablesByPrecedencesAreSafe =
    (g : Grammar) (lists : PrecedenceLists) (graph : Graph) (table : Table) (steps : ℕ → GrammarSymbol → Option ℕ) → IsWellFormed g
    → AreMerged g (graph_len graph) (sets_of graph) (Along steps) → IsMergedTableBy g lists graph table (Along steps) → IsSafe g graph table

-- a table of merged item sets is viable, whatever precedences resolve its conflicts
abbrev pub MergedTablesByPrecedencesAreViable : Type 0
MergedTablesByPrecedencesAreViable =
    (g : Grammar) (lists : PrecedenceLists) (graph : Graph) (table : Table) (steps : ℕ → GrammarSymbol → Option ℕ)
    → AreMerged g (graph_len graph) (sets_of graph) (Along steps) → IsMergedTableBy g lists graph table (Along steps) → IsViable g graph table

-- the precedences decide nothing, for no production and token
abbrev pub DecideNothing : PrecedenceLists → Type 0
DecideNothing lists = (p t : ℕ) → resolution_of lists p t ≡ None

-- by precedences that decide nothing, the merged tables are those without precedences, with no resolved conflicts
abbrev pub MergedByNoneIsMerged : Type 0
MergedByNoneIsMerged =
    (g : Grammar) (lists : PrecedenceLists) (graph : Graph) (table : Table) → DecideNothing lists
    → IsMergedBy g lists graph table ↔ (IsMerged g graph table × (table.resolved ≡ []))

-- a table that is built of a grammar and precedences is one of merged item sets
abbrev pub BuiltByTablesAreMergedBy : Type 0
BuiltByTablesAreMergedBy =
    (g : Grammar) (lists : PrecedenceLists) (graph : Graph) (table : Table) → IsWellFormed g → IsBuiltBy g lists graph table
    → IsMergedBy g lists graph table

-- the conflicts of a table of merged item sets fit the grammar, those that the precedences don't resolve and those that they do
abbrev pub MergedConflictsByFit : Type 0
MergedConflictsByFit =
    (g : Grammar) (lists : PrecedenceLists) (graph : Graph) (table : Table) → IsWellFormed g → IsMergedBy g lists graph table
    → ConflictsFit g (lists_in table.conflicts) × All (ResolvedFits g) table.resolved

-- if the precedences resolve all conflicts of a merged table, they resolve all conflicts of the canonical table
abbrev pub NoMergedConflictsByAreNoCanonical : Type 0
NoMergedConflictsByAreNoCanonical =
    (g : Grammar) (lists : PrecedenceLists) (graph : Graph) (table : Table) (other : Graph) (other_table : Table) → IsWellFormed g
    → IsMergedBy g lists graph table → table.conflicts ≡ None → IsBuiltBy g lists other other_table → other_table.conflicts ≡ None

-- the path leads to state s, and the set that gotos reach by it calls for a shift of token t, and for the reduction by p at t
pub record MeetsAlong (g : Grammar) (goes : ℕ → GrammarSymbol → ℕ → Type 0) (path : List GrammarSymbol) (s t p : ℕ) : Type 0 where
  pub along : LeadsAlong goes path s
  pub shifts : (x : ItemOf) × IsReachedBy g path x × (slice_get (symbols_of g x.prod) x.dot ≡ Some (Terminal t))
  pub reduces : IsReachedBy g path (item_at p (prod_len g p) t)

-- a shift and a reduction that meet in a merged set meet in a canonical one, along some path to its state: merging makes no
-- shift/reduce conflicts
abbrev pub MergedShiftConflictsAreCanonical : Type 0
MergedShiftConflictsAreCanonical =
    (g : Grammar) (graph : Graph) (steps : ℕ → GrammarSymbol → Option ℕ) → AreMerged g (graph_len graph) (sets_of graph) (Along steps)
    → (s t p : ℕ) → HasAfterDot g (sets_of graph) s (Terminal t) → HasReduce g (sets_of graph) s t p
    → (path : List GrammarSymbol) × MeetsAlong g (Along steps) path s t p
