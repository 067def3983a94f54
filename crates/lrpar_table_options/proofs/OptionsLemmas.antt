-- A table that is built by options is viable. Without precedences it is that of the grammar alone, so it is complete if and only if it
-- has no conflicts.
use Rattle.std.proofs.Common.{◌≡◌, ◌≤◌, refl, subst, sym, ℕ}
use Rattle.lrpar_grammar.specs.Grammar.{Grammar, IsWellFormed}
use Rattle.lrpar_table_precedence.specs.Precedence.{PrecedenceLists, no_precedences}
use Rattle.lrpar_table_rows.specs.Graph.{Graph, graph_len}
use Rattle.lrpar_table_rows.specs.Table.{Table}
use Rattle.lrpar_table_build.specs.Built.{IsBuiltBy}
use Rattle.lrpar_table_build.proofs.BuiltLemmas.{built_without}
use Rattle.lrpar_table_viable.specs.Viable.{IsViable}
use Rattle.lrpar_table_check.specs.Checked.{Checked, GivesBack, IsChainFault, IsChecked, Unchecked}
use Rattle.lrpar_table.specs.TableLaws.{IsCompleteWithoutConflicts}
use Rattle.lrpar_table.proofs.CompleteLemmas.{built_tables_are_complete_without_conflicts}
use Rattle.lrpar_table.proofs.ViableLemmas.{tables_by_precedence_are_viable}
use Rattle.lrpar_table_merge.specs.Distinct.{HaveDistinctStates}
use Rattle.lrpar_table_merge.specs.MergedBy.{IsMergedBy}
use Rattle.lrpar_table_merge.specs.Minimised.{IsMinimisedBy}
use Rattle.lrpar_table_merge.specs.declared.build.Minimiser.{Minimiser}
use Rattle.lrpar_table_merge.specs.declared.build.Minimiser.TheVariants.{Canonical, Pager}
use Rattle.lrpar_table_merge.proofs.MergedByNoneLemmas.{merged_by_none_is_merged, none_decide}
use Rattle.lrpar_table_merge.proofs.MergedCompleteLemmas.{merged_tables_are_complete_without_conflicts}
use Rattle.lrpar_table_merge.proofs.MergedViableLemmas.{merged_tables_by_precedences_are_viable}
use Rattle.lrpar_table_options.specs.Options.{Options}
use Rattle.lrpar_table_options.specs.ParserDataBy.{IsMinimised, IsParserDataBy, IsRefusedBy, IsTableBy}

module _ (g : Grammar) (graph : Graph) (table : Table) where
  -- without precedences, the table is that of the grammar alone
  minimised_alone : (minimiser : Minimiser) (lists : PrecedenceLists) → IsWellFormed g → lists ≡ no_precedences
      → IsMinimisedBy minimiser g lists graph table → IsMinimised minimiser g graph table
  minimised_alone Canonical lists well none built =
      built_without g graph table well (subst (λ (x : PrecedenceLists). IsBuiltBy g x graph table) none built)
  minimised_alone Pager lists well none merged =
      let by_none = subst (λ (x : PrecedenceLists). IsMergedBy g x graph table) none merged in
      ((merged_by_none_is_merged g no_precedences graph table none_decide).0 by_none).0

  -- such a table is complete if and only if it has no conflicts
  minimised_complete : (minimiser : Minimiser) → IsWellFormed g → IsMinimised minimiser g graph table → IsCompleteWithoutConflicts g graph table
  minimised_complete Canonical well built = built_tables_are_complete_without_conflicts g graph table well built
  minimised_complete Pager well merged = merged_tables_are_complete_without_conflicts g graph table well merged

  minimised_viable : (minimiser : Minimiser) (lists : PrecedenceLists) → IsMinimisedBy minimiser g lists graph table → IsViable g graph table
  minimised_viable Canonical lists built = tables_by_precedence_are_viable g lists graph table built
  minimised_viable Pager lists merged = merged_tables_by_precedences_are_viable g lists graph table merged.steps merged.merged merged.resolution

  module _ (options : Options) (by : IsMinimisedBy options.minimiser g options.precedences graph table) (distinct : HaveDistinctStates (graph, table))
      (room : graph_len graph ≤ options.max_states) where
    table_by : IsWellFormed g → IsTableBy options g graph table
    table_by well = record {
      by = by;
      alone = λ none. minimised_alone options.minimiser options.precedences well none by;
      distinct = distinct;
      room = room;
    }

    abbrev parts : Checked
    parts = record { grammar = g; graph = graph; table = table; cap = options.cap }

    data_of_parts : IsChecked parts → IsParserDataBy options g parts
    data_of_parts checked = record {
      grammar = refl;
      cap_is = refl;
      built = table_by checked.well_formed;
      checked = checked;
      viable = minimised_viable options.minimiser options.precedences by;
      complete = λ none.
          minimised_complete options.minimiser checked.well_formed
          (minimised_alone options.minimiser options.precedences checked.well_formed none by);
    }

    module _ (bound : ℕ) (cap_is : bound ≡ options.cap) where
      -- what is checked of what was built
      pub parser_data_by : (d : Checked) → d ≡ record { grammar = g; graph = graph; table = table; cap = bound } → IsChecked d
          → IsParserDataBy options g d
      parser_data_by d made checked =
          let same : d ≡ parts = subst (λ (n : ℕ). d ≡ record { grammar = g; graph = graph; table = table; cap = n }) cap_is made in
          subst (IsParserDataBy options g) (sym same) (data_of_parts (subst IsChecked same checked))

      -- and what is refused of it
      pub refused_by : IsWellFormed g → (refused : Unchecked) → GivesBack g graph table refused → IsChainFault g table bound refused.fault
          → IsRefusedBy options g refused
      refused_by well refused back fault =
          let of_options = subst (λ (n : ℕ). IsChainFault g table n refused.fault) cap_is fault in
          record {
            grammar = back.0;
            built = rw (back.1, back.2) (table_by well);
            fault = rw back.2 of_options;
          }
