-- A checked table by options, and why there is none.
use Rattle.std.specs.Prelude.{◌≡◌, ◌≤◌, ℕ}
use Rattle.lrpar_grammar.specs.Grammar.{Grammar}
use Rattle.lrpar_table_precedence.specs.Precedence.{no_precedences}
use Rattle.lrpar_table_rows.specs.Graph.{Graph, graph_len}
use Rattle.lrpar_table_rows.specs.Table.{Table as TableOf}
use Rattle.lrpar_table_build.specs.Built.{IsBuilt}
use Rattle.lrpar_table_viable.specs.Viable.{IsViable}
use Rattle.lrpar_table_check.specs.Checked.{Checked, IsChainFault, IsChecked, Unchecked}
use Rattle.lrpar_table.specs.TableLaws.{IsCompleteWithoutConflicts}
use Rattle.lrpar_table.specs.declared.build.Unbuilt.{Unbuilt}
use Rattle.lrpar_table.specs.declared.build.Unbuilt.TheVariants.{Chains, Table}
use Rattle.lrpar_table_merge.specs.Distinct.{HaveDistinctStates}
use Rattle.lrpar_table_merge.specs.Merged.{IsMerged}
use Rattle.lrpar_table_merge.specs.Minimised.{IsMinimisedBy, IsRefusalBy}
use Rattle.lrpar_table_merge.specs.declared.build.Minimiser.{Minimiser}
use Rattle.lrpar_table_merge.specs.declared.build.Minimiser.TheVariants.{Canonical, Pager}
use Rattle.lrpar_table_options.specs.Options.{Options}

-- the graph and the table are those of the grammar alone, without precedences: canonical, or with merged item sets
abbrev pub IsMinimised : Minimiser → Grammar → Graph → TableOf → Type 0
IsMinimised Canonical g graph table = IsBuilt g graph table
IsMinimised Pager g graph table = IsMerged g graph table

-- the graph and the table are built by the options, within the limit of states; no two states have the same items
pub record IsTableBy (options : Options) (g : Grammar) (graph : Graph) (table : TableOf) : Type 0 where
  pub by : IsMinimisedBy options.minimiser g options.precedences graph table
  pub alone : options.precedences ≡ no_precedences → IsMinimised options.minimiser g graph table
  pub distinct : HaveDistinctStates (graph, table)
  pub room : graph_len graph ≤ options.max_states

-- the checked table is the one that is built by the options, and has their cap; it is viable; and without precedences it is complete if
-- and only if it has no conflicts
pub record IsParserDataBy (options : Options) (g : Grammar) (d : Checked) : Type 0 where
  pub grammar : d.grammar ≡ g
  pub cap_is : d.cap ≡ options.cap
  pub built : IsTableBy options g d.graph d.table
  pub checked : IsChecked d
  pub viable : IsViable d.grammar d.graph d.table
  pub complete : options.precedences ≡ no_precedences → IsCompleteWithoutConflicts d.grammar d.graph d.table

-- what is refused for its chains is what was built by the options
pub record IsRefusedBy (options : Options) (g : Grammar) (refused : Unchecked) : Type 0 where
  pub grammar : refused.grammar ≡ g
  pub built : IsTableBy options g refused.graph refused.table
  pub fault : IsChainFault g refused.table options.cap refused.fault

-- why there is no checked table by the options, if the storage type has `limit` numbers: none is built; or its chains are too long, or
-- an allocation failed
abbrev pub IsUnbuiltBy : {S : Type 0} → Options → Grammar → ℕ → Unbuilt S → Type 0
IsUnbuiltBy options g limit (Table fault grm) = (grm ≡ g) × IsRefusalBy options.minimiser g options.max_states limit fault
IsUnbuiltBy options g limit (Chains refused) = IsRefusedBy options g refused
