use denote.Shadow.{shadow}
use denote.Text.{Utf8}
use Rattle.std.proofs.Common.{◌+◌, ◌*◌, ◌++◌, [], length}
use Rattle.std.specs.Fmt.{◌++?◌, debug_items}
use Rattle.lrpar_parse_trees.specs.Shown.{shown, shown_end}
use Rattle.lrpar_parse_trees.proofs.WeightLemmas.{weights}
use Rattle.lrpar_parse_trees.proofs.FitsLemmas.{later_trees}
use Rattle.lrpar_parse_trees.proofs.ShownLemmas.{Continues, left_shown}
use Rattle.lrpar_parse_trees.proofs.node.shown.write_nodes.Given as goal

-- with what is left, the text so far is the whole
abbrev pub invariant-loop-node : goal.invariant-loop-node
invariant-loop-node g l =
    let text = shown g.LexemeT.Debug.debug_output g.StorageT.Debug.debug_output in
    shadow (Utf8 l.mark)
    × Continues g.W.Write.write_str_gives l.fn.f (debug_items text [] l.fn.nodes ++? shown_end) l.f (left_shown text l.mark l.nodes l.left.items)

-- the nodes that are left, and the levels to go back to
abbrev pub decreases-loop-node : goal.decreases-loop-node
decreases-loop-node g l = 2 * weights (l.nodes ++ later_trees l.left.items) + length l.left.items
