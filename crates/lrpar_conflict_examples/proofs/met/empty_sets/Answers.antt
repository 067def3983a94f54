use Rattle.lrpar_table_first.proofs.RowLemmas.{empty_added}
use Rattle.lrpar_conflict_examples.proofs.met.empty_sets.Goals as goal

pub loop-preserved : goal.loop-preserved
loop-preserved c =
    empty_added c.loop.sets.items c.push.new.self.items c.in_ok-new.field-0 c.loop.counter c.args.tokens c.in_ok-push.ensures.items c.loop.invariant.0
    c.loop.invariant.1 c.loop.invariant.2 c.in_ok-new.ensures.room c.in_ok-new.ensures.none
