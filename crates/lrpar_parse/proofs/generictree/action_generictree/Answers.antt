use Rattle.std.proofs.Common.{refl}
use Rattle.lrpar_parse.proofs.generictree.action_generictree.Goals as goal

pub returns : goal.returns
returns g c = record {
  ridx = c.args.ridx;
  children = c.in_ok-nodes.nodes;
  rule = refl;
  children_are = c.in_ok-nodes.ensures;
  is = refl;
}
