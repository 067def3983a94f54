use Rattle.std.proofs.Common.{◌∙◌, ap}
use Rattle.lrpar_table_sentences.specs.Moves.{moves_in}
use Rattle.lrpar_table_sentences.specs.AccessStrings.{steps_of}
use Rattle.lrpar_conflict_derivations.proofs.derivations.derive.Goals as goal

pub returns : goal.returns
returns g c =
    let index = g.StorageT.StorageIndex.index in
    λ trees fit front.
    c.in_ok-item.ensures.begun (steps_of index c.args.steps.now) (moves_in index c.complete_derivation.new.out.items) c.in_ok-complete_derivation.ensures trees fit
    (ap (moves_in index) c.in_ok-moves.ensures.items ∙ front)
