use Rattle.std.proofs.Common.{◌<◌, refl, ap, arith, length, map}
use Rattle.lrpar_table_items.specs.Cores.{core_set}
use Rattle.lrpar_table_merge.specs.Merging.{work_of}
use Rattle.lrpar_table_merge.proofs.MergingLemmas.{merging_same}
use Rattle.lrpar_table_merge.proofs.WorkLemmas.{work_set}
use Rattle.lrpar_table_merge.proofs.merge.Merging.set_transitions.Goals as goal

pub returns-then-number-len : goal.returns-then-number-len
returns-then-number-len g c =
    let index = g.StorageT.StorageIndex.index in
    let before = c.args.self.now in
    let low : c.args.number < length before.states.items = omega (arith, c.if-number-len.true, c.len.ensures) in
    let state = c.index_mut.result.now in record {
      merging =
          merging_same index c.args.grm.now c.args.max_states g.StorageT.StorageIndex.limit before c.requires.merging _ c.args.number _ state low refl refl
          (ap (λ read. map (core_set index) read.kernel.items) c.index_mut.ensures.value);
      work =
          work_set index c.args.grm.now c.args.max_states before.states.items _ c.args.number _ state refl low
          (let same = ap (work_of index) c.index_mut.ensures.value in omega (arith, same));
    }
