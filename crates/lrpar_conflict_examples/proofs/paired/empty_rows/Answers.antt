use Rattle.std.proofs.Common.{ap, map}
use Rattle.lrpar_conflict_examples.proofs.PairLemmas.{empty_more, empty_none}
use Rattle.lrpar_conflict_examples.proofs.paired.empty_rows.Goals as goal

pub loop-init : goal.loop-init
loop-init c = empty_none _ (ap (map (λ row. row.items)) c.in_ok-rows.ensures.items)

pub loop-preserved : goal.loop-preserved
loop-preserved c = empty_more c.loop.counter c.loop.rows.items c.push.new.self.items c.new.result c.loop.invariant c.new.ensures.items c.in_ok-push.ensures.items
