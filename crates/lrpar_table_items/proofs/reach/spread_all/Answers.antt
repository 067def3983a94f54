use Rattle.std.proofs.Common.{◌≡◌, ◌||◌, ◌∙◌, sym, subst, arith}
use Rattle.std.proofs.lemmas.Bool.{OnFalse_at, OnFalse_from, or_parts}
use Rattle.lrpar_table_items.specs.Working.{HasGrown, Rests}
use Rattle.lrpar_table_items.proofs.RestLemmas.{flag_more, flag_same, grown_itself, grown_on, rest_more}
use Rattle.lrpar_table_items.proofs.reach.spread_all.Goals as goal
use Rattle.lrpar_table_items.proofs.reach.spread_all.Goals.{then-spread_waiting, else-spread_waiting}

pub loop-rule-init : goal.loop-rule-init
loop-rule-init g c = (c.requires.sets, c.requires.waiting, grown_itself c.args.grm.now c.args.sets.now, λ n low. absurd (omega (arith, low)))

pub loop-rule-preserved : goal.loop-rule-preserved
loop-rule-preserved g c =
    let grm = c.args.grm.now in
    let first = c.args.sets.now in
    let before = c.loop-rule.sets in
    let after = c.spread_waiting.new.sets in
    let one = c.spread_waiting.ensures in
    let so_far = c.loop-rule.invariant in
    let number : g.StorageT.StorageIndex.index c.unwrap.result ≡ c.loop-rule.rule = rw c.unwrap.ensures at c.from_index.ensures.back in
    let flag : c.if-spread_waiting.grown ≡ (c.loop-rule.grown || c.spread_waiting.result) =
    elim c.if-spread_waiting.branch [
      | then-spread_waiting w ↦ flag_more c.loop-rule.grown c.spread_waiting.result c.if-spread_waiting.grown w.grown-is w.if-spread_waiting.true
      | else-spread_waiting w ↦ flag_same c.loop-rule.grown c.spread_waiting.result c.if-spread_waiting.grown w.grown-is w.if-spread_waiting.false
    ] in (
      one.sets,
      one.waiting,
      subst (λ grown. HasGrown grm grown first after) (sym flag) (grown_on grm first before after c.loop-rule.grown c.spread_waiting.result so_far.2 one.growth),
      OnFalse_from c.if-spread_waiting.grown _ (λ fell.
          let parts = or_parts c.loop-rule.grown c.spread_waiting.result (sym flag ∙ fell) in
          let rests = OnFalse_at parts.1 one.rests in
          rest_more before after c.loop-rule.rule (OnFalse_at parts.0 so_far.3) rests.1 (subst (Rests after) number rests.0)),
    )

pub returns-clause-rests : goal.returns-clause-rests
returns-clause-rests g c =
    let count = c.rules_len-rule-end.ensures.len in
    OnFalse_from c.loop-rule.grown _ (λ fell n low.
    OnFalse_at fell c.loop-rule.invariant.3 n (omega (arith, low, count, c.loop-rule-test.false, c.loop-rule.auto.rule-end)))
