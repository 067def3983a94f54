use Rattle.std.proofs.Common.{◌+◌, map, take, subst}
use Rattle.std.proofs.lemmas.List.{take_all}
use Rattle.lrpar_grammar_places.proofs.ListLemmas.{map-take_more}
use Rattle.lrpar_report.specs.Loops.{Lead, step_of}
use Rattle.lrpar_report.proofs.LoopLemmas.{lead_more}
use Rattle.lrpar_report.proofs.loops.end_of.Goals as goal

pub steps-preserved : goal.steps-preserved
steps-preserved g c =
    let index = g.StorageT.StorageIndex.index in
    let steps = c.args.steps.now in
    let i = c.steps.step-index in
    let more = map-take_more (step_of index) steps i c.step-item.result c.steps-test.true c.step-item.is in
    lead_more c.args.kind c.args.grm.now (index c.args.from.0) (index c.steps.rule.0) (index c.in-Some.next.0)
    (map (step_of index) (take i steps)) (map (step_of index) (take (i + 1) steps)) (step_of index c.step-item.result)
    c.steps.invariant c.in-Some.ensures more

pub returns : goal.returns
returns g c =
    let index = g.StorageT.StorageIndex.index in
    let steps = c.args.steps.now in
    subst (λ s. Lead c.args.kind c.args.grm.now (index c.args.from.0) (map (step_of index) s) (index c.steps.rule.0))
    (take_all c.steps.step-index steps c.steps-test.false) c.steps.invariant
