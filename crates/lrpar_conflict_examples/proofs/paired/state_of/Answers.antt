use Rattle.lrpar_table_sentences.proofs.FixLemmas.{index_back}
use Rattle.lrpar_conflict_examples.proofs.paired.state_of.Goals as goal

pub returns : goal.returns
returns g c = index_back g.StorageT.StorageIndex.index c.from_index.result c.unwrap.result c.args.number c.from_index.ensures.back c.unwrap.ensures
