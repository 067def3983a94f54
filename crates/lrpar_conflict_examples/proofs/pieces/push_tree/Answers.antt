use Rattle.std.proofs.Common.{◌++◌, ◌∙◌, Some, sym, ap, append_assoc}
use Rattle.std.specs.String.{string_bytes}
use Rattle.std.proofs.lemmas.List.Elements.{All-pop}
use Rattle.lrpar_conflict_examples.specs.Pieces.{PieceFits, backward_text, piece_text}
use Rattle.lrpar_conflict_examples.proofs.PieceLemmas.{backward_more}
use Rattle.lrpar_conflict_examples.proofs.pieces.push_tree.Goals as goal

pub loop-piece-preserved : goal.loop-piece-preserved
loop-piece-preserved g c =
    let index = g.StorageT.StorageIndex.index in
    let grm = c.args.grm.now in
    let left = c.pop.new.self.items in
    let piece = c.in-Some.piece in
    let out = string_bytes c.loop-piece.out in
    let popped = All-pop (PieceFits index grm) c.loop-piece.pieces.items left (Some piece) c.in-Some.ensures.items c.loop-piece.invariant.0 in (
      popped.0,
      λ tree of_tree.
          ap (λ o. o ++ backward_text index grm left) c.in_ok-push_piece.ensures ∙ append_assoc out (piece_text index grm piece) (backward_text index grm left)
          ∙ ap (λ t. out ++ t) (sym (ap (backward_text index grm) c.in-Some.ensures.items ∙ backward_more index grm left piece))
          ∙ c.loop-piece.invariant.1 tree of_tree,
    )
