use Rattle.std.proofs.Common.{◌+◌, inl, inr, IsTrue, List, subst, suc, sym, take, ℕ}
use Rattle.std.specs.List.{Contains}
use Rattle.lrpar_parse_cpctplus.specs.Counted.{has_node}
use Rattle.lrpar_parse_cpctplus.specs.NodesView.{links_of, rests_of, sources_of}
use Rattle.lrpar_parse_cpctplus.proofs.CountLemmas.{all_numbers_taken, is_next_layer, no_number, none_is_part, number_more}
use Rattle.lrpar_parse_cpctplus.proofs.nodes.Nodes.next_layer.Goals as goal

pub loop-node-init : goal.loop-node-init
loop-node-init g c = record {
  part = λ s is. none_is_part (rests_of g.StorageT.StorageIndex.index c.args.self.now (suc s)) c.new-next.result c.new-next.ensures;
  sources = λ node u m n. absurd (no_number node m);
}

pub loop-node-preserved : goal.loop-node-preserved
loop-node-preserved g c =
    let index = g.StorageT.StorageIndex.index in
    let l = c.loop-node in
    let items = c.deref-node-items.result.now in
    let same = c.deref-node-items.ensures.value in
    record {
      part = λ s is. c.in_ok-add_sources.ensures.part s is (l.invariant.part s is);
      sources = λ node u m n.
          elim (number_more items l.node-index c.loop-node-test.true node (subst (λ (xs : List ℕ). Contains (take (l.node-index + 1) xs) node) (sym same) m))
          as (λ _. IsTrue (has_node c.add_sources.new.next u)) [
            | inl before ↦
                c.in_ok-add_sources.ensures.stay u
                (l.invariant.sources node u (subst (λ (xs : List ℕ). Contains (take l.node-index xs) node) same before) n)
            | inr here ↦ c.in_ok-add_sources.ensures.there u (subst (λ (k : ℕ). Contains (sources_of index c.args.self.now k) u) (sym here) n)
          ];
    }

pub returns : goal.returns
returns g c s is =
    let index = g.StorageT.StorageIndex.index in
    let nodes = c.args.self.now in
    let l = c.loop-node in
    let past = rw c.deref-node-items.ensures.value at c.loop-node-test.false in
    is_next_layer nodes.avoided.now nodes.end (links_of index nodes) s c.args.layer.now l.next is (l.invariant.part s is) (λ u link m there.
    l.invariant.sources link.to u (all_numbers_taken c.args.layer.now.nodes.items l.node-index past link.to there) (c.requires.back u link m))
