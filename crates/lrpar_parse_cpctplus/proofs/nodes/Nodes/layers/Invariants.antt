use Rattle.std.proofs.Common.{◌<◌, ◌≤◌, ◌+◌, ◌-◌, ℕ, get_or, length}
use Rattle.lrpar_parse_cpctplus.specs.Counted.{IsLayer}
use Rattle.lrpar_parse_cpctplus.specs.NodesView.{rests_of}
use Rattle.lrpar_parse_cpctplus.specs.declared.layer.Layer.{Layer}
use Rattle.lrpar_parse_cpctplus.proofs.nodes.Nodes.layers.Given as goal

-- the layers so far, and the one of the next number of steps
abbrev pub invariant-steps : goal.invariant-steps
invariant-steps g l =
    let rests = rests_of g.StorageT.StorageIndex.index l.self in
    record {
      each : (s : ℕ) (d : Layer) → s < length l.layers.items → IsLayer (rests s) (get_or l.layers.items s d);
      few : length l.layers.items ≤ l.self.end + 1;
      next : IsLayer (rests (length l.layers.items)) l.layer;
    }

abbrev pub decreases-steps : goal.decreases-steps
decreases-steps g l = l.self.end + 1 - length l.layers.items
