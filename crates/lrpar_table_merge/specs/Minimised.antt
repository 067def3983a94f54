-- The result of the table builder with a choice: canonical item sets, or merged ones.
use Rattle.std.specs.Prelude.{◌⊎◌, ℕ}
use Rattle.lrpar_grammar.specs.Grammar.{Grammar}
use Rattle.lrpar_table_precedence.specs.Precedence.{PrecedenceLists}
use Rattle.lrpar_table_rows.specs.Graph.{Graph}
use Rattle.lrpar_table_rows.specs.Safe.{IsSafe}
use Rattle.lrpar_table_rows.specs.Table.{Table}
use Rattle.lrpar_table_items.specs.Canonical.{ReachesMore}
use Rattle.lrpar_table_items.specs.declared.fault.BuildFault.{BuildFault}
use Rattle.lrpar_table_items.specs.declared.fault.BuildFault.TheVariants.{AcceptReduceConflict, Memory, StorageTooSmall, TooManyStates}
use Rattle.lrpar_table_build.specs.Built.{IsBuildRefusal, IsBuiltBy}
use Rattle.lrpar_table_merge.specs.MergedBy.{HasMergedAcceptConflict, IsMergedBy}
use Rattle.lrpar_table_merge.specs.Merging.{MergesMore}
use Rattle.lrpar_table_merge.specs.declared.build.Minimiser.{Minimiser}
use Rattle.lrpar_table_merge.specs.declared.build.Minimiser.TheVariants.{Canonical, Pager}

-- the graph has canonical item sets or merged ones, and the table their actions after conflict resolution by the precedences
abbrev pub IsMinimisedBy : Minimiser → Grammar → PrecedenceLists → Graph → Table → Type 0
IsMinimisedBy Canonical g lists graph table = IsBuiltBy g lists graph table
IsMinimisedBy Pager g lists graph table = IsMergedBy g lists graph table

-- merging can make more than n kernels, or gotos reach more than n item sets
abbrev pub HasMoreSets : Grammar → ℕ → Type 0
HasMoreSets g n = MergesMore g n ⊎ ReachesMore g n

-- why no merged table is built, if `most` states are allowed and the storage type has `limit` numbers: there are too many states; merged
-- item sets call for accept and for a reduction; or an allocation failed
abbrev pub IsMergingRefusal : Grammar → ℕ → ℕ → BuildFault → Type 0
IsMergingRefusal g most limit TooManyStates = HasMoreSets g most
IsMergingRefusal g most limit StorageTooSmall = HasMoreSets g limit
IsMergingRefusal g most limit (AcceptReduceConflict n) = HasMergedAcceptConflict g n
IsMergingRefusal g most limit Memory = Unit {0}

-- why item sets aren't merged: merging can make more kernels than are allowed, or an allocation failed
abbrev pub IsMergeFault : Grammar → ℕ → ℕ → BuildFault → Type 0
IsMergeFault g most limit TooManyStates = MergesMore g most
IsMergeFault g most limit StorageTooSmall = MergesMore g limit
IsMergeFault g most limit (AcceptReduceConflict n) = ⊥
IsMergeFault g most limit Memory = Unit {0}

-- why no table is built by the minimiser, if `most` states are allowed and the storage type has `limit` numbers
abbrev pub IsRefusalBy : Minimiser → Grammar → ℕ → ℕ → BuildFault → Type 0
IsRefusalBy Canonical g most limit fault = IsBuildRefusal g most limit fault
IsRefusalBy Pager g most limit fault = IsMergingRefusal g most limit fault

-- a graph and a table that are built by the precedences and the minimiser
abbrev pub AreMinimisedBy : Minimiser → Grammar → PrecedenceLists → Graph × Table → Type 0
AreMinimisedBy minimiser g lists built = IsMinimisedBy minimiser g lists built.0 built.1

-- a graph and a table that are safe
abbrev pub AreSafe : Grammar → Graph × Table → Type 0
AreSafe g built = IsSafe g built.0 built.1
