use Rattle.lrpar_parse_repair.proofs.ListedLemmas.{step_end, step_more, step_none}
use Rattle.lrpar_parse_repair.proofs.listed_repairs.repairs_over.Goals as goal

pub loop-step-preserved : goal.loop-step-preserved
loop-step-preserved g c =
    let l = c.loop-step in
    step_more g.StorageT.StorageIndex.index l.rest.now c.in-Some.after.now c.args.steps.now l.step-index c.step-item.result l.repairs.items c.push.new.self.items
    c.in-Some.repair _ c.loop-step-test.true c.step-item.is c.in-Some.ensures l.invariant c.in_ok-push-in-Some.ensures.items

pub returns-in-None : goal.returns-in-None
returns-in-None g c =
    let l = c.loop-step in record {
      repairs = step_none g.StorageT.StorageIndex.index l.rest.now c.args.steps.now l.step-index c.step-item.result l.repairs.items _ c.loop-step-test.true c.step-item.is
          c.in-None.ensures l.invariant;
    }

pub returns : goal.returns
returns g c =
    let l = c.loop-step in
    record { repairs = step_end g.StorageT.StorageIndex.index l.rest.now c.args.steps.now l.step-index l.repairs.items _ c.loop-step-test.false l.invariant }
