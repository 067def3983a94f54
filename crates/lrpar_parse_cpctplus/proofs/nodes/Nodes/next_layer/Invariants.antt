use Rattle.std.proofs.Common.{ℕ, suc, IsTrue, take, Contains}
use Rattle.lrpar_parse_cpctplus.specs.Counted.{IsLayer, IsPartOfLayer, has_node}
use Rattle.lrpar_parse_cpctplus.specs.NodesView.{rests_of, sources_of}
use Rattle.lrpar_parse_cpctplus.proofs.nodes.Nodes.next_layer.Given as goal

-- the nodes so far that lead to one of the layer are there, with their numbers
abbrev pub invariant-loop-node : goal.invariant-loop-node
invariant-loop-node g l =
    let index = g.StorageT.StorageIndex.index in
    record {
      part : (s : ℕ) → IsLayer (rests_of index l.self s) l.layer → IsPartOfLayer (rests_of index l.self (suc s)) l.next;
      sources : (node u : ℕ) → Contains (take l.node-index l.layer.nodes.items) node → Contains (sources_of index l.self node) u
          → IsTrue (has_node l.next u);
    }
