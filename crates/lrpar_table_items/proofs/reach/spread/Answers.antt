use Rattle.std.proofs.lemmas.Bool.{OnFalse_at}
use Rattle.lrpar_table_items.specs.Working.{brought_rows}
use Rattle.lrpar_table_items.proofs.RestLemmas.{all_spread}
use Rattle.lrpar_table_items.proofs.SpreadLemmas.{brought_itself, brought_on, exact_spread, keeps_itself, keeps_on}
use Rattle.lrpar_table_items.proofs.reach.spread.Goals as goal

pub passes-init : goal.passes-init
passes-init g c =
    let sets = brought_rows c.args.sets.now in
    (c.requires.sets, c.requires.waiting, keeps_itself sets, brought_itself c.args.grm.now sets)

pub passes-preserved : goal.passes-preserved
passes-preserved g c =
    let first = brought_rows c.args.sets.now in
    let before = brought_rows c.passes.sets in
    let after = brought_rows c.spread_all.new.sets in
    let all = c.spread_all.ensures in (
      all.sets,
      all.waiting,
      keeps_on first before after c.passes.invariant.2 all.growth.kept,
      brought_on c.args.grm.now first before after c.passes.invariant.3 all.growth.sound,
    )

pub returns-clause-exact : goal.returns-clause-exact
returns-clause-exact g c =
    let first = brought_rows c.args.sets.now in
    let before = brought_rows c.passes.sets in
    let after = brought_rows c.spread_all.new.sets in
    let all = c.spread_all.ensures in
    exact_spread c.args.grm.now first after (keeps_on first before after c.passes.invariant.2 all.growth.kept)
    (brought_on c.args.grm.now first before after c.passes.invariant.3 all.growth.sound)
    (all_spread c.args.grm.now c.requires.well_formed c.spread_all.new.sets all.waiting (OnFalse_at c.passes-test.false all.rests))
