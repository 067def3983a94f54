use Rattle.std.proofs.Common.{◌∙◌, sym, ap}
use Rattle.lrpar_table_sentences.specs.declared.transitions.Step.{Step}
use Rattle.lrpar_conflict_derivations.proofs.PathLemmas.{state_by, state_past}
use Rattle.lrpar_conflict_derivations.proofs.completion.state_at.Goals as goal

pub returns-then-place-steps : goal.returns-then-place-steps
returns-then-place-steps g c =
    let index = g.StorageT.StorageIndex.index in
    let step = c.index-steps-place.result in
    ap (λ (x : Step g.row.StorageT.Denot). index x.from.0) (sym c.index-steps-place.is)
    ∙ state_by index c.args.steps.now c.args.place step (index c.args.last.0) c.if-place-steps.true c.index-steps-place.is

pub returns-else-place-steps : goal.returns-else-place-steps
returns-else-place-steps g c =
    let index = g.StorageT.StorageIndex.index in state_past index c.args.steps.now c.args.place (index c.args.last.0) c.if-place-steps.false
