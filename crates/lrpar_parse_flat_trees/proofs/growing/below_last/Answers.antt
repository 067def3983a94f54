use Rattle.lrpar_parse_flat_trees.proofs.GrowingLemmas.{count_read, last_fits, left_out}
use Rattle.lrpar_parse_flat_trees.proofs.growing.below_last.Goals as goal

pub slice_bounds-result-count : goal.slice_bounds-result-count
slice_bounds-result-count g c =
    let nodes = c.args.nodes.now in
    last_fits nodes c.requires.flat c.requires.some c.count-count.result
    (count_read nodes c.index-nodes-nodes.result c.count-count.result c.requires.flat c.requires.some c.index-nodes-nodes.is c.count-count.ensures)

pub returns : goal.returns
returns g c =
    let nodes = c.args.nodes.now in
    left_out nodes c.requires.flat c.requires.some c.count-count.result
    (count_read nodes c.index-nodes-nodes.result c.count-count.result c.requires.flat c.requires.some c.index-nodes-nodes.is c.count-count.ensures)
