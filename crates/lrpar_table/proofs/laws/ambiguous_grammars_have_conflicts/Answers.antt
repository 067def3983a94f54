use Rattle.lrpar_table.proofs.CompleteLemmas.{ambiguous_grammars_have_conflicts, grammars_without_conflicts_have_one_tree}
use Rattle.lrpar_table.proofs.laws.ambiguous_grammars_have_conflicts.Goals as goal

pub returns : goal.returns
returns g c = record {
  conflicts = ambiguous_grammars_have_conflicts;
  one_tree = grammars_without_conflicts_have_one_tree;
  facts_conflicts = ambiguous_grammars_have_conflicts;
  facts_one_tree = grammars_without_conflicts_have_one_tree;
}
