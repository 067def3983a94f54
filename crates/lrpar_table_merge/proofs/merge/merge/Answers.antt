use Rattle.std.proofs.Common.{sym, ap, subst, All, map}
use Rattle.lrpar_table_items.specs.CoreOrder.{IsKernel}
use Rattle.lrpar_table_items.specs.Canonical.{AreSame}
use Rattle.lrpar_table_items.specs.Cores.{IsAmong, core_set}
use Rattle.lrpar_table_items.specs.ItemSets.{IsStartItem}
use Rattle.lrpar_table_merge.specs.Merging.{AreSplit, Starts, kernels_of}
use Rattle.lrpar_table_merge.proofs.merge.merge.Goals as goal

pub merge_kernel-requires-clause-kernel : goal.merge_kernel-requires-clause-kernel
merge_kernel-requires-clause-kernel g c =
    let index = g.StorageT.StorageIndex.index in
    let grm = c.args.grm.now in
    let value = sym c.deref.ensures.value in record {
      is = subst (λ items. IsKernel grm (map (core_set index) items)) value c.in_ok-start.ensures.kernel;
      made =
          Starts (map (core_set index) c.deref.result.now)
          (subst (λ items. AreSame (IsAmong (map (core_set index) items)) (IsStartItem grm)) value c.in_ok-start.ensures.start);
    }

pub returns-clause-kernels : goal.returns-clause-kernels
returns-clause-kernels g c =
    let index = g.StorageT.StorageIndex.index in
    let is = ap (λ states. kernels_of index states.items) c.into_states.ensures in
    subst (All (IsKernel c.args.grm.now)) (sym is) c.in_ok-merge_until_stable.ensures.merging.kernels

pub returns-clause-split : goal.returns-clause-split
returns-clause-split g c =
    let index = g.StorageT.StorageIndex.index in
    let is = ap (λ states. kernels_of index states.items) c.into_states.ensures in
    subst (AreSplit c.args.grm.now) (sym is) c.in_ok-merge_until_stable.ensures.merging.split
