use Rattle.std.proofs.Common.{◌≤◌}
use Rattle.std.specs.Prelude.{◌↔◌}
use Rattle.std.specs.List.{AllByRecursion}
use Rattle.lrpar_parse_trees.specs.TreeText.{all_met}
use Rattle.lrpar_parse_trees.proofs.FitsLemmas.{fit}
use Rattle.lrpar_parse_trees.proofs.WeightLemmas.{weights}
use Rattle.lrpar_parse_trees.proofs.tree_text.+fit_by_calls.Given as goal

-- the nodes of the trees
abbrev pub decreases-fit_by_calls : goal.decreases-fit_by_calls
decreases-fit_by_calls g l = weights l.nodes.now

-- what is left fits if and only if the trees do
abbrev pub invariant-loop-node : goal.invariant-loop-node
invariant-loop-node g l =
    let P = fit g.StorageT.StorageIndex.index g.LexemeT.Lexeme.parts l.grm l.input in
    record {
      fits : AllByRecursion P (all_met 1 l.nodes) ↔ AllByRecursion P (all_met 1 l.fn.nodes);
      below : weights l.nodes ≤ weights l.fn.nodes;
    }

-- the nodes that are left
abbrev pub decreases-loop-node : goal.decreases-loop-node
decreases-loop-node g l = weights l.nodes
