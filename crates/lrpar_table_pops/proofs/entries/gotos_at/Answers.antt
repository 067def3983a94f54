use Rattle.lrpar_table_pops.proofs.EntryLemmas.{all_rules, stored_gotos}
use Rattle.lrpar_table_pops.proofs.entries.gotos_at.Goals as goal

pub returns-clause-gotos : goal.returns-clause-gotos
returns-clause-gotos g c =
    stored_gotos g.StorageT.StorageIndex.index c.args.stable.now c.args.s c.gotos_of.result.0.now c.gotos_of.result.1.now c.gotos_of.ensures.entries
    c.gotos_of.ensures.states c.gotos_of.ensures.exact

pub returns-clause-all : goal.returns-clause-all
returns-clause-all g c =
    all_rules g.StorageT.StorageIndex.index c.args.stable.now c.args.s c.gotos_of.result.0.now c.gotos_of.result.1.now c.gotos_of.ensures.entries
    c.gotos_of.ensures.states c.gotos_of.ensures.exact
