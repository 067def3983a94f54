use Rattle.lrpar_parse_precedences.proofs.RespectLemmas as trees
use Rattle.lrpar_parse_precedences.proofs.laws.trees_respect_precedences.Goals as goal

pub returns : goal.returns
returns g c = record {
  trees = trees.trees_respect_precedences;
  facts_trees = trees.trees_respect_precedences;
}
