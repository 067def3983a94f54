use Rattle.lrpar_parse_flat_trees.proofs.GrowingLemmas.{none_left_out}
use Rattle.lrpar_parse_flat_trees.proofs.growing.below.Goals as goal

pub loop-i-init : goal.loop-i-init
loop-i-init g c = none_left_out c.args.nodes.now c.requires.flat
