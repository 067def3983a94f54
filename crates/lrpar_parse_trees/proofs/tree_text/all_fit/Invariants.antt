use Rattle.std.proofs.Common.{◌+◌, ◌*◌, ◌++◌, length}
use Rattle.std.specs.Prelude.{◌↔◌}
use Rattle.std.specs.List.{AllByRecursion}
use Rattle.lrpar_parse_trees.specs.TreeText.{all_met}
use Rattle.lrpar_parse_trees.proofs.WeightLemmas.{weights}
use Rattle.lrpar_parse_trees.proofs.FitsLemmas.{fit, later_trees}
use Rattle.lrpar_parse_trees.proofs.tree_text.all_fit.Given as goal

-- what is left fits if and only if the trees do
abbrev pub invariant-loop-node : goal.invariant-loop-node
invariant-loop-node g l =
    let P = fit g.StorageT.StorageIndex.index g.LexemeT.Lexeme.parts l.grm l.input in
    AllByRecursion P (all_met 1 (l.nodes ++ later_trees l.left.items)) ↔ AllByRecursion P (all_met 1 l.fn.nodes)

-- the nodes that are left, and the levels to go back to
abbrev pub decreases-loop-node : goal.decreases-loop-node
decreases-loop-node g l = 2 * weights (l.nodes ++ later_trees l.left.items) + length l.left.items
