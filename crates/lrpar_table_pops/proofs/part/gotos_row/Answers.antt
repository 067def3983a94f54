use Rattle.lrpar_table_pops.proofs.RowLemmas.{goto_more, gotos_all}
use Rattle.lrpar_table_pops.proofs.part.gotos_row.Goals as goal

pub rules-preserved : goal.rules-preserved
rules-preserved g c =
    goto_more g.StorageT.StorageIndex.index c.args.stable.now c.gotos_of.result.0.now c.gotos_of.result.1.now c.rules.place c.index-rules-place.result
    c.index-nexts-place.result c.rules.row.items c.push.new.self.items c.gotos_of.ensures.states c.rules-test.true c.index-rules-place.is c.index-nexts-place.is
    c.rules.invariant c.in_ok-push.ensures.items

pub returns : goal.returns
returns g c =
    gotos_all g.StorageT.StorageIndex.index c.args.stable.now (g.StorageT.StorageIndex.index c.args.state.0) c.gotos_of.result.0.now c.gotos_of.result.1.now
    c.rules.place c.rules.row.items c.rules-test.false c.gotos_of.ensures.entries c.rules.invariant c.gotos_of.ensures.states
