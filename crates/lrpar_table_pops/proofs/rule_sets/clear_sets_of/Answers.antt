use Rattle.std.proofs.Common.{◌∙◌}
use Rattle.lrpar_table_pops.proofs.RuleSetLemmas.{left_more}
use Rattle.lrpar_table_pops.proofs.rule_sets.clear_sets_of.Goals as goal

pub loop-place-preserved : goal.loop-place-preserved
loop-place-preserved c =
    let l = c.loop-place in
    record {
      room = λ r. c.clear_set.ensures.room r ∙ l.invariant.room r;
      left = left_more c.args.rules.now l.place _ l.sets.items c.clear_set.new.sets.items c.clear_set.ensures.none c.clear_set.ensures.others l.invariant.left;
    }
