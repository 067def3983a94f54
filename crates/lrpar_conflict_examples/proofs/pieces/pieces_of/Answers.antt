use Rattle.std.proofs.Common.{◌≡◌, ◌<◌, ◌≤◌, ◌+◌, ◌-◌, ◌++◌, ◌∷◌, ◌∙◌, [], sym, ap, subst, arith, length, take}
use Rattle.std.specs.List.{All}
use Rattle.std.proofs.lemmas.List.Elements.{All-nil, All-push}
use Rattle.std.proofs.lemmas.List.{take_all}
use Rattle.lrpar_table_sentences.specs.Moves.{moves_in}
use Rattle.lrpar_conflict_examples.specs.Pieces.{PieceFits, backward_text}
use Rattle.lrpar_conflict_examples.specs.Words.{tree_text}
use Rattle.lrpar_conflict_examples.specs.declared.pieces.Piece.TheVariants.{Front}
use Rattle.lrpar_conflict_examples.specs.declared.pieces.Waiting.TheVariants as waits
use Rattle.lrpar_conflict_examples.proofs.PieceLemmas.{Walk, backward_more, meets_fit, walk_begins, walk_left, walk_next, walk_opens}
use Rattle.lrpar_conflict_examples.proofs.pieces.pieces_of.Goals as goal

pub nodes-init : goal.nodes-init
nodes-init g c =
    let index = g.StorageT.StorageIndex.index in
    let grm = c.args.grm.now in
    let moves = c.args.moves.now in
    let none = c.new-pieces.ensures.items in
    let waits_one = c.in_ok-push.ensures.items ∙ ap (λ l. l ++ waits.Tree ∷ []) c.new-waiting.ensures.items in
    let all : take (length moves) moves ≡ moves = take_all (length moves) moves (omega arith) in (
      subst (All (PieceFits index grm)) (sym none) (All-nil (PieceFits index grm)),
      omega arith,
      λ tree of_tree.
          let begins = walk_begins index grm (moves_in index moves) tree c.start_prod-lemma.ensures.well_formed of_tree in
          subst (λ w. Walk index grm w (moves_in index (take (length moves) moves)) (backward_text index grm c.new-pieces.result.items) (tree_text grm tree)) (sym waits_one)
          (subst (λ ps. Walk index grm (waits.Tree ∷ []) (moves_in index (take (length moves) moves)) (backward_text index grm ps) (tree_text grm tree)) (sym none)
          (subst (λ ms. Walk index grm (waits.Tree ∷ []) (moves_in index ms) [] (tree_text grm tree)) (sym all) begins)),
    )

pub nodes-preserved-in-Continue-branch-2 : goal.nodes-preserved-in-Continue-branch-2
nodes-preserved-in-Continue-branch-2 g c =
    let index = g.StorageT.StorageIndex.index in
    let grm = c.args.grm.now in
    let P = PieceFits index grm in
    let left = c.pop.new.self.items in
    let p = c.in-Before.prod in
    let rest = moves_in index (take c.nodes.left c.args.moves.now) in
    let pieces = c.nodes.pieces.items in
    let pushed = c.in_ok-push-in-Before.ensures.items in
    let last = c.in-Some.ensures.items ∙ ap (λ w. left ++ w ∷ []) c.in-Before.is in
    let own = walk_opens index grm c.nodes.waiting.items left rest (backward_text index grm pieces) _ (c.nodes.invariant.2 c.requires.0 c.requires.1) p last in (
      subst (All P) (sym pushed) (All-push P pieces (Front p) c.nodes.invariant.0 own.0),
      c.nodes.invariant.1,
      λ tree of_tree.
          subst (λ t. Walk index grm left rest t (tree_text grm tree)) (sym (ap (backward_text index grm) pushed ∙ backward_more index grm pieces (Front p)))
          (walk_opens index grm c.nodes.waiting.items left rest (backward_text index grm pieces) (tree_text grm tree) (c.nodes.invariant.2 tree of_tree) p last).1,
    )

pub overflow_sub-left : goal.overflow_sub-left
overflow_sub-left g c =
    let index = g.StorageT.StorageIndex.index in
    let last = c.in-Some.ensures.items ∙ ap (λ w. c.pop.new.self.items ++ w ∷ []) c.in-Tree.is in
    walk_left index c.args.grm.now c.nodes.waiting.items c.pop.new.self.items c.args.moves.now c.nodes.left _ _ (c.nodes.invariant.2 c.requires.0 c.requires.1) last

pub bounds-moves-left : goal.bounds-moves-left
bounds-moves-left g c =
    let index = g.StorageT.StorageIndex.index in
    let last = c.in-Some.ensures.items ∙ ap (λ w. c.pop.new.self.items ++ w ∷ []) c.in-Tree.is in
    let some = walk_left index c.args.grm.now c.nodes.waiting.items c.pop.new.self.items c.args.moves.now c.nodes.left _ _ (c.nodes.invariant.2 c.requires.0 c.requires.1) last in
    omega (arith, some, c.nodes.invariant.1)

pub meet-requires : goal.meet-requires
meet-requires g c =
    let index = g.StorageT.StorageIndex.index in
    let last = c.in-Some.ensures.items ∙ ap (λ w. c.pop.new.self.items ++ w ∷ []) c.in-Tree.is in
    let walk = c.nodes.invariant.2 c.requires.0 c.requires.1 in
    let some = walk_left index c.args.grm.now c.nodes.waiting.items c.pop.new.self.items c.args.moves.now c.nodes.left _ _ walk last in
    (walk_next index c.args.grm.now c.start_prod-lemma.ensures.well_formed c.nodes.waiting.items c.pop.new.self.items c.args.moves.now c.nodes.left (c.nodes.left - 1)
    c.nodes.pieces.items _ c.index-moves-left.result walk last (omega (arith, some)) (omega (arith, some, c.nodes.invariant.1)) c.index-moves-left.is).0

pub nodes-smaller : goal.nodes-smaller
nodes-smaller g c =
    let index = g.StorageT.StorageIndex.index in
    let last = c.in-Some.ensures.items ∙ ap (λ w. c.pop.new.self.items ++ w ∷ []) c.in-Tree.is in
    let some = walk_left index c.args.grm.now c.nodes.waiting.items c.pop.new.self.items c.args.moves.now c.nodes.left _ _ (c.nodes.invariant.2 c.requires.0 c.requires.1) last in
    let new = c.meet.new.waiting in
    omega (arith, some, new.small, new.ok.0, new.ok.1)

pub nodes-preserved : goal.nodes-preserved
nodes-preserved g c =
    let index = g.StorageT.StorageIndex.index in
    let grm = c.args.grm.now in
    let moves = c.args.moves.now in
    let left = c.nodes.left in
    let m = c.index-moves-left.result in
    let old = c.nodes.waiting.items in
    let waiting = c.pop.new.self.items in
    let well = c.start_prod-lemma.ensures.well_formed in
    let last = c.in-Some.ensures.items ∙ ap (λ w. waiting ++ w ∷ []) c.in-Tree.is in
    let walk = c.nodes.invariant.2 c.requires.0 c.requires.1 in
    let some : 1 ≤ left = walk_left index grm old waiting moves left _ _ walk last in
    let one : left ≡ (left - 1) + 1 = omega (arith, some) in
    let low : left - 1 < length moves = omega (arith, some, c.nodes.invariant.1) in
    let meets = c.in_ok-meet-in-Tree.ensures in
    let known = (walk_next index grm well old waiting moves left (left - 1) c.nodes.pieces.items _ m walk last one low c.index-moves-left.is).0 in (
      meets_fit index grm m c.nodes.pieces.items c.meet.new.pieces.items waiting c.meet.new.waiting.items known meets c.nodes.invariant.0,
      omega (arith, c.nodes.invariant.1),
      λ tree of_tree.
          (walk_next index grm well old waiting moves left (left - 1) c.nodes.pieces.items (tree_text grm tree) m (c.nodes.invariant.2 tree of_tree) last one low c.index-moves-left.is).1
          c.meet.new.waiting.items c.meet.new.pieces.items meets,
    )
