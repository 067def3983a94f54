use Rattle.lrpar_parse_precedences.proofs.OperatorLemmas as trees
use Rattle.lrpar_parse_precedences.proofs.laws.operator_texts_are_taken.Goals as goal

pub returns : goal.returns
returns g c = record {
  taken = trees.respectful_trees_are_taken;
  one = trees.respectful_trees_are_one;
  facts_taken = trees.respectful_trees_are_taken;
  facts_one = trees.respectful_trees_are_one;
}
