use Rattle.lrpar_table.proofs.ViableLemmas.{built_tables_are_viable, tables_by_precedence_are_viable}
use Rattle.lrpar_parse_prefixes.proofs.laws.built_tables_are_viable.Goals as goal

pub returns : goal.returns
returns c = record {
  built = built_tables_are_viable;
  by_precedences = tables_by_precedence_are_viable;
}
