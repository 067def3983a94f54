use Rattle.lrpar_parse_repair.proofs.ListedLemmas.{sequence_more}
use Rattle.lrpar_parse_repair.proofs.listed_repairs.listed_repairs.Goals as goal

pub loop-steps-preserved : goal.loop-steps-preserved
loop-steps-preserved g c =
    let l = c.loop-steps in
    sequence_more g.StorageT.StorageIndex.index c.args.left.now c.args.listed.now l.steps-index c.steps-item.result c.deref.result.now
    l.repairs.items c.push.new.self.items c.in_ok-repairs_over.field-0 c.loop-steps-test.true c.steps-item.is c.deref.ensures.value
    c.in_ok-repairs_over.ensures.repairs l.invariant c.in_ok-push.ensures.items
