use Rattle.std.proofs.Common.{◌≡◌, ◌∙◌, ◌∷◌, ◌++◌, [], List, ap, subst, sym}
use Rattle.lrpar_grammar_places.specs.Facts.{LexemeFacts}
use Rattle.lrpar_parse_flat_trees.specs.Flat.{AreFlat, FlatLeaf, FlatNode, trees_of}
use Rattle.lrpar_parse_flat_trees.proofs.GrowingLemmas.{leaf_added}
use Rattle.lrpar_parse_flat_trees.proofs.growing.Growing.push_leaf.Goals as goal

pub invariant_of-self-2 : goal.invariant_of-self-2
invariant_of-self-2 g c =
    let old : List FlatNode = c.self.inside.nodes.items in
    let x : LexemeFacts = record { token = g.StorageT.StorageIndex.index c.args.token; span = c.args.span; faulty = c.args.is_faulty } in
    let is : c.push.new.self.items ≡ old ++ FlatLeaf x ∷ [] = c.in_ok-push.ensures.items ∙ ap (λ (n : FlatNode). old ++ n ∷ []) c.in_ok-node.ensures in
    subst (λ (ns : List FlatNode). AreFlat ns) (sym is) (leaf_added old x c.self.invariant).flat

pub returns : goal.returns
returns g c =
    let old : List FlatNode = c.self.inside.nodes.items in
    let x : LexemeFacts = record { token = g.StorageT.StorageIndex.index c.args.token; span = c.args.span; faulty = c.args.is_faulty } in
    let is : c.push.new.self.items ≡ old ++ FlatLeaf x ∷ [] = c.in_ok-push.ensures.items ∙ ap (λ (n : FlatNode). old ++ n ∷ []) c.in_ok-node.ensures in
    rw (← c.self.view_is) (ap (λ (ns : List FlatNode). trees_of ns) is ∙ (leaf_added old x c.self.invariant).trees_are)
