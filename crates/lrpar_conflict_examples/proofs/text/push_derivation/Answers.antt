use Rattle.std.proofs.Common.{◌≡◌, ◌++◌, codes}
use Rattle.std.specs.String.{string_bytes}
use Rattle.lrpar_table_sentences.specs.Moves.{move_of, moves_in}
use Rattle.lrpar_conflict_examples.specs.Fits.{AreMovesOf}
use Rattle.lrpar_conflict_examples.specs.Words.{move_text, derivation_text, tree_text}
use Rattle.lrpar_conflict_examples.proofs.TextLemmas.{four_pieces, on_ok_all}
use Rattle.lrpar_conflict_examples.proofs.text.push_derivation.Goals as goal

pub returns : goal.returns
returns g c =
    let index = g.StorageT.StorageIndex.index in
    let grm = c.args.grm.now in
    let next = move_of index c.args.next in
    on_ok_all (AreMovesOf grm (moves_in index c.args.moves.now)) (λ tree. string_bytes c.push.new.self ≡ string_bytes c.args.out.now ++ derivation_text grm next tree) c.push.result
    (λ tree of_tree.
    four_pieces c.push.result (string_bytes c.args.out.now) (string_bytes c.push_str.new.self) (string_bytes c.push_move.new.out) (string_bytes c.push_str-2.new.self)
    (string_bytes c.push_tree.new.out) (string_bytes c.push.new.self) (codes "  ") (move_text grm next) (codes "\n   ") (tree_text grm tree)
    c.in_ok-push_str.ensures.bytes c.in_ok-push_move.ensures c.in_ok-push_str-2.ensures.bytes (c.in_ok-push_tree.ensures tree of_tree) c.push.ensures.bytes)
