-- A checked table of a grammar alone, and why there is none.
use Rattle.std.specs.Prelude.{◌≡◌, ◌≤◌, ℕ}
use Rattle.lrpar_grammar.specs.Grammar.{Grammar}
use Rattle.lrpar_table_rows.specs.Graph.{graph_len}
use Rattle.lrpar_table_build.specs.Built.{IsBuildRefusal, IsBuilt}
use Rattle.lrpar_table_check.specs.Checked.{Checked, IsChainFault, IsChecked, Unchecked}
use Rattle.lrpar_table.specs.TableLaws.{IsCompleteWithoutConflicts}
use Rattle.lrpar_table.specs.declared.build.Unbuilt.{Unbuilt}
use Rattle.lrpar_table.specs.declared.build.Unbuilt.TheVariants.{Chains, Table}

-- the checked table is the one that is built of the grammar, with at most `most` states, and has this cap; it is complete if and
-- only if it has no conflicts
pub record IsParserDataOf (g : Grammar) (most cap : ℕ) (d : Checked) : Type 0 where
  pub grammar : d.grammar ≡ g
  pub cap_is : d.cap ≡ cap
  pub built : IsBuilt g d.graph d.table
  pub room : graph_len d.graph ≤ most
  pub checked : IsChecked d
  pub complete : IsCompleteWithoutConflicts d.grammar d.graph d.table

-- what is refused for its chains is what was built of the grammar
pub record IsRefusedBuilt (g : Grammar) (most cap : ℕ) (refused : Unchecked) : Type 0 where
  pub grammar : refused.grammar ≡ g
  pub built : IsBuilt g refused.graph refused.table
  pub room : graph_len refused.graph ≤ most
  pub fault : IsChainFault g refused.table cap refused.fault

-- why there is no checked table: none is built; or its chains are too long, or an allocation failed
abbrev pub IsUnbuilt : {S : Type 0} → ℕ → Grammar → ℕ → ℕ → Unbuilt S → Type 0
IsUnbuilt limit g most bound (Table fault grm) = (grm ≡ g) × IsBuildRefusal g most limit fault
IsUnbuilt limit g most bound (Chains refused) = IsRefusedBuilt g most bound refused
