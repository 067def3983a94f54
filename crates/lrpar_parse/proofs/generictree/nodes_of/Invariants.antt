use Rattle.std.proofs.Common.{◌≡◌, map}
use Rattle.lrpar_parse_run.specs.Nodes.{node_of}
use Rattle.lrpar_parse.proofs.generictree.nodes_of.Given as goal

-- the nodes so far are those of what was taken so far
abbrev pub invariant-loop-arg : goal.invariant-loop-arg
invariant-loop-arg g l = l.nodes.items ≡ map node_of l.yielded
