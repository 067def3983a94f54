use Rattle.std.proofs.Common.{◌≡◌, ◌-◌, ◌+◌, ◌∙◌, ◌∷◌, ◌++◌, [], List, length, ap, arith, subst, sym}
use Rattle.lrpar_parse_flat_trees.specs.Flat.{AreFlat, FlatBranch, FlatNode, trees_of}
use Rattle.lrpar_parse_flat_trees.proofs.GrowingLemmas.{closed_by, nodes_above}
use Rattle.lrpar_parse_flat_trees.proofs.growing.Growing.close.Goals as goal

pub invariant_of-self-2 : goal.invariant_of-self-2
invariant_of-self-2 g c =
    let old : List FlatNode = c.self.inside.nodes.items in
    let p = g.StorageT.StorageIndex.index c.args.prod in
    let below = rw c.deref.ensures.value at c.below-rest.ensures in
    let lies = rw c.deref-2.ensures.value at c.span_after-span.ensures in
    let len : c.len.result ≡ length old = c.len.ensures ∙ sym c.deref-2.ensures.len ∙ ap (λ (ns : List FlatNode). length ns) c.deref-2.ensures.value in
    let is : c.push.new.self.items ≡ old ++ FlatBranch p ((c.len.result - length c.below-rest.result.now) + 1) c.span_after-span.result ∷ [] =
    c.in_ok-push.ensures.items ∙ ap (λ (n : FlatNode). old ++ n ∷ []) c.in_ok-node.ensures in
    subst (λ (ns : List FlatNode). AreFlat ns) (sym is) (closed_by c.args.count p old c.below-rest.result.now c.span_after-span.result c.len.result c.self.invariant below lies len).flat

pub returns : goal.returns
returns g c =
    let old : List FlatNode = c.self.inside.nodes.items in
    let p = g.StorageT.StorageIndex.index c.args.prod in
    let below = rw c.deref.ensures.value at c.below-rest.ensures in
    let lies = rw c.deref-2.ensures.value at c.span_after-span.ensures in
    let len : c.len.result ≡ length old = c.len.ensures ∙ sym c.deref-2.ensures.len ∙ ap (λ (ns : List FlatNode). length ns) c.deref-2.ensures.value in
    let is : c.push.new.self.items ≡ old ++ FlatBranch p ((c.len.result - length c.below-rest.result.now) + 1) c.span_after-span.result ∷ [] =
    c.in_ok-push.ensures.items ∙ ap (λ (n : FlatNode). old ++ n ∷ []) c.in_ok-node.ensures in
    rw (← c.self.view_is)
    (ap (λ (ns : List FlatNode). trees_of ns) is
    ∙ (closed_by c.args.count p old c.below-rest.result.now c.span_after-span.result c.len.result c.self.invariant below lies len).trees_are)

pub overflow_sub-len : goal.overflow_sub-len
overflow_sub-len g c =
    let old : List FlatNode = c.self.inside.nodes.items in
    let below = rw c.deref.ensures.value at c.below-rest.ensures in
    let many = nodes_above c.args.count old c.below-rest.result.now c.self.invariant below in
    let len : c.len.result ≡ length old = c.len.ensures ∙ sym c.deref-2.ensures.len ∙ ap (λ (ns : List FlatNode). length ns) c.deref-2.ensures.value in
    omega (arith, many, len)
