use Rattle.lrpar_table_check.proofs.CountLemmas.{stored_reduction}
use Rattle.lrpar_table_check.proofs.chains.Chains.leads_to.Goals as goal

pub unit_goto-requires-clause-prod : goal.unit_goto-requires-clause-prod
unit_goto-requires-clause-prod g c =
    let index = g.StorageT.StorageIndex.index in
    let d = c.args.self.now in
    let at = c.actions_of.ensures in
    let stored =
    stored_reduction index d.grm.now d.stable.now (index c.args.above.0) c.actions_of.result.0.now c.actions_of.result.1.now at.entries at.actions
    c.loop-place.place c.index-tokens-place.result c.index-actions-place.result c.loop-place-test.true c.index-tokens-place.is c.index-actions-place.is
    c.in-Reduce.prod at.exact at.within c.requires.sound.fits c.in-Reduce.is in
    stored.known
