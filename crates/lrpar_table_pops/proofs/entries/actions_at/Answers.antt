use Rattle.lrpar_table_pops.proofs.EntryLemmas.{all_tokens, stored_actions}
use Rattle.lrpar_table_pops.proofs.entries.actions_at.Goals as goal

pub returns-clause-actions : goal.returns-clause-actions
returns-clause-actions g c =
    stored_actions g.StorageT.StorageIndex.index c.args.stable.now c.args.s c.actions_of.result.0.now c.actions_of.result.1.now c.actions_of.ensures.entries
    c.actions_of.ensures.actions c.actions_of.ensures.exact

pub returns-clause-all : goal.returns-clause-all
returns-clause-all g c =
    all_tokens g.StorageT.StorageIndex.index c.args.stable.now c.args.s c.actions_of.result.0.now c.actions_of.result.1.now c.actions_of.ensures.entries
    c.actions_of.ensures.actions c.actions_of.ensures.exact
