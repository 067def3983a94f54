use Rattle.std.proofs.Common.{◌^◌, ◌-◌}
use Rattle.lrpar_table_sentences.specs.Choices.{choices_of}
use Rattle.lrpar_table_sentences.proofs.ReachableLemmas.{kept_by, not_reached, one_more}
use Rattle.lrpar_table_sentences.proofs.FixLemmas.{index_back}
use Rattle.lrpar_table_sentences.proofs.reachable.first_unproductive.Goals as goal
use Rattle.lrpar_table_sentences.proofs.reachable.first_unproductive.Goals.{else-marks-rule-via-then-marks-rule+else-is_none, else-marks-rule-via-else-marks-rule}

pub loop-rule-preserved : goal.loop-rule-preserved
loop-rule-preserved g c =
    let index = g.StorageT.StorageIndex.index in
    let grm = c.args.grm.now in
    let n = c.loop-rule.rule in
    let at = index_back index c.from_index.result c.unwrap.result n c.from_index.ensures.back c.unwrap.ensures in
    one_more grm n c.loop-rule.invariant
    (λ reached.
    elim c.else-marks-rule.branch [
      | else-marks-rule-via-then-marks-rule+else-is_none w ↦
          kept_by grm (2 ^ 64 - 1) (choices_of index c.args.choices.now) c.requires.rules index w.choice_of.result (index c.unwrap.result) n w.choice_of.ensures at w.if-is_none.ensures
      | else-marks-rule-via-else-marks-rule w ↦ not_reached grm c.args.marks.now c.requires.marks n w.if-marks-rule.false reached
    ])
