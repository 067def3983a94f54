use Rattle.std.proofs.Common.{◌^◌, ◌-◌, ◌∙◌, sym, arith}
use Rattle.lrpar_table_sentences.proofs.FixLemmas.{index_back, fixing_kept, fixing_stays}
use Rattle.lrpar_table_sentences.proofs.minimal_sentences.keep_least.Goals as goal
use Rattle.lrpar_table_sentences.proofs.minimal_sentences.keep_least.Goals.{then-eq, else-eq}

pub loop-prod-preserved : goal.loop-prod-preserved
loop-prod-preserved g c =
    let index = g.StorageT.StorageIndex.index in
    let grm = c.args.grm.now in
    let at = index_back index c.from_index.result c.unwrap.result c.loop-prod.prod c.from_index.ensures.back c.unwrap.ensures in
    let count = c.prods_len-prod-end.ensures.len in
    elim c.if-eq.branch [
      | then-eq w ↦
          fixing_kept index grm (2 ^ 64 - 1) c.args.len c.args.choices.now c.loop-prod.choices c.if-eq.choices c.loop-prod.prod c.loop-prod.invariant
          w.from-rule.result (record { 0 = c.unwrap.result }) c.open_len.result (omega (arith, count, c.loop-prod-test.true)) at c.open_len.ensures
          (sym c.eq.ensures ∙ w.if-eq.true) (w.from-rule.ensures ∙ w.prod_to_rule.ensures.rule)
          (let low = w.prod_to_rule.ensures.within in omega (arith, low, w.from-rule.ensures)) w.choices-is
      | else-eq w ↦
          fixing_stays index grm (2 ^ 64 - 1) c.args.len c.args.choices.now c.loop-prod.choices c.if-eq.choices c.loop-prod.prod c.loop-prod.invariant
          (record { 0 = c.unwrap.result }) c.open_len.result at c.open_len.ensures (sym c.eq.ensures ∙ w.if-eq.false) w.choices-is
    ]
