use Rattle.std.proofs.Common.{◌≡◌, ◌+◌, ◌||◌, All, refl, subst, sym, take}
use Rattle.std.proofs.lemmas.List.{take_all}
use Rattle.std.proofs.lemmas.List.Elements.{All-nil}
use Rattle.lrpar_grammar.specs.Symbols.{prod_numbers}
use Rattle.lrpar_grammar_places.proofs.ListLemmas.{map-take_more}
use Rattle.lrpar_table_items.specs.Working.{HasGrown}
use Rattle.lrpar_table_items.proofs.ProdLemmas.{listed_at}
use Rattle.lrpar_table_items.proofs.RestLemmas.{IsSpreadOrWaits, flag_more, flag_same, grown_itself, grown_on, marks_on, resting_on, spread_all_of, spread_more}
use Rattle.lrpar_table_items.proofs.reach.spread_rule.Goals as goal
use Rattle.lrpar_table_items.proofs.reach.spread_rule.Goals.{then-spread_from, else-spread_from}

pub loop-pidx-init : goal.loop-pidx-init
loop-pidx-init g c =
    let sets = c.args.sets.now in
    (c.requires.sets, grown_itself c.args.grm.now sets, λ n rests. (rests, refl), refl, All-nil (IsSpreadOrWaits c.args.grm.now sets))

pub spread_from-requires-clause-prod : goal.spread_from-requires-clause-prod
spread_from-requires-clause-prod g c =
    let index = g.StorageT.StorageIndex.index in
    (listed_at index c.args.grm.now (index c.args.ridx.0) c.rule_to_prods-pidx-items.result.now c.loop-pidx.pidx-index c.pidx-item.result
    c.rule_to_prods-pidx-items.ensures c.loop-pidx-test.true c.pidx-item.is).0

pub loop-pidx-preserved : goal.loop-pidx-preserved
loop-pidx-preserved g c =
    let index = g.StorageT.StorageIndex.index in
    let grm = c.args.grm.now in
    let prods = c.rule_to_prods-pidx-items.result.now in
    let i = c.loop-pidx.pidx-index in
    let p = c.pidx-item.result in
    let more = map-take_more (λ x. index x.0) prods i p c.loop-pidx-test.true c.pidx-item.is in
    let first = c.args.sets.now in
    let before = c.loop-pidx.sets in
    let after = c.spread_from.new.sets in
    let one = c.spread_from.ensures in
    let so_far = c.loop-pidx.invariant in
    let flag : c.if-spread_from.grown ≡ (c.loop-pidx.grown || c.spread_from.result) =
    elim c.if-spread_from.branch [
      | then-spread_from w ↦ flag_more c.loop-pidx.grown c.spread_from.result c.if-spread_from.grown w.grown-is w.if-spread_from.true
      | else-spread_from w ↦ flag_same c.loop-pidx.grown c.spread_from.result c.if-spread_from.grown w.grown-is w.if-spread_from.false
    ] in (
      one.sets,
      subst (λ grown. HasGrown grm grown first after) (sym flag) (grown_on grm first before after c.loop-pidx.grown c.spread_from.result so_far.1 one.growth),
      resting_on first before after so_far.2 one.resting,
      marks_on first before after c.loop-pidx.grown c.spread_from.result c.if-spread_from.grown flag so_far.3 one.waits,
      spread_more grm before after (prod_numbers index (take i prods)) (prod_numbers index (take (i + 1) prods)) (index p.0) more one.growth.kept one.resting
          so_far.4 one.closed,
    )

pub returns-clause-closed : goal.returns-clause-closed
returns-clause-closed g c =
    let index = g.StorageT.StorageIndex.index in
    let grm = c.args.grm.now in
    let sets = c.loop-pidx.sets in
    let prods = c.rule_to_prods-pidx-items.result.now in
    let all = take_all c.loop-pidx.pidx-index prods c.loop-pidx-test.false in
    let listed = subst (λ xs. All (IsSpreadOrWaits grm sets) (prod_numbers index xs)) all c.loop-pidx.invariant.4 in
    spread_all_of grm sets (index c.args.ridx.0) (subst (All (IsSpreadOrWaits grm sets)) c.rule_to_prods-pidx-items.ensures listed)
