use Rattle.std.proofs.Common.{refl, ap, map}
use Rattle.std.proofs.lemmas.List.{length-set}
use Rattle.lrpar_table_items.specs.Cores.{core_set}
use Rattle.lrpar_table_merge.proofs.MergingLemmas.{merging_same}
use Rattle.lrpar_table_merge.proofs.WorkLemmas.{turn_ends}
use Rattle.lrpar_table_merge.proofs.merge.Merging.stop_waiting.Goals as goal

pub returns-clause-merging : goal.returns-clause-merging
returns-clause-merging g c =
    let index = g.StorageT.StorageIndex.index in
    merging_same index c.args.grm.now c.args.max_states g.StorageT.StorageIndex.limit c.args.self.now c.requires.merging _ c.args.number _
    c.index_mut.result.now c.requires.number refl refl (ap (λ read. map (core_set index) read.kernel.items) c.index_mut.ensures.value)

pub returns-clause-turn : goal.returns-clause-turn
returns-clause-turn g c =
    turn_ends g.StorageT.StorageIndex.index c.args.grm.now c.args.max_states c.args.self.now.states.items _ c.args.number c.index.result.now c.requires.number
    c.index.ensures c.index_mut.result.now c.index_mut.ensures.value refl

pub returns-clause-len : goal.returns-clause-len
returns-clause-len g c = length-set c.args.self.now.states.items c.args.number _
