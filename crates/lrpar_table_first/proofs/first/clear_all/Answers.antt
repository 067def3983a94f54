use Rattle.std.proofs.Common.{◌<◌, ◌∙◌, arith, length}
use Rattle.lrpar_table_first.proofs.ClearLemmas.{cleared_more, rooms_kept}
use Rattle.lrpar_table_first.proofs.first.clear_all.Goals as goal

pub loop-rule-preserved : goal.loop-rule-preserved
loop-rule-preserved c =
    let within : c.loop-rule.rule < length c.loop-rule.sets = omega (arith, c.loop-rule-test.true) in (
      cleared_more c.loop-rule.sets c.loop-rule.rule c.clear.new.self within c.clear.ensures.none c.loop-rule.invariant.0,
      rooms_kept c.loop-rule.sets c.loop-rule.rule _ c.clear.new.self within c.clear.ensures.room ∙ c.loop-rule.invariant.1,
    )
