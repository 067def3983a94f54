use Rattle.lrpar_grammar_typed.proofs.ListLemmas.{lists_are_trees, trees_are_lists}
use Rattle.lrpar_grammar_typed.proofs.laws.trees_of_lists_are_lists.Goals as goal

pub returns : goal.returns
returns g c = record { lists = trees_are_lists _; trees = lists_are_trees _ }
