use Rattle.std.proofs.Common.{◌<◌, ◌∙◌, sym, inl, inr, arith, length}
use Rattle.std.proofs.lemmas.Bool.{cases_eq, eq-eqb, false≢true}
use Rattle.lrpar_table_sentences.specs.Moves.{move_of}
use Rattle.lrpar_conflict_derivations.proofs.ValidationLemmas.{first_move}
use Rattle.lrpar_conflict_derivations.proofs.validation.begins_by.Goals as goal

pub returns : goal.returns
returns g c =
    let index = g.StorageT.StorageIndex.index in
    let moves = c.args.moves.now in
    let some : 0 < length moves = elim (cases_eq (length moves) 0) [
      | inl none ↦ absurd (false≢true (sym c.if-is_empty.false ∙ c.is_empty.ensures ∙ eq-eqb (length moves) 0 none))
      | inr other ↦ omega (arith, other)
    ] in
    λ is. first_move index moves c.index-moves-0.result (move_of index c.args.next) some c.index-moves-0.is (c.is_same.ensures is)
