use Rattle.std.proofs.Common.{◌≡◌, ap, subst, sym, map}
use Rattle.lrpar_table_items.specs.Canonical.{AreSame}
use Rattle.lrpar_table_items.specs.Kernels.{IsReachedKernel, path_at}
use Rattle.lrpar_table_items.specs.CoreOrder.{AreCores, IsKernel}
use Rattle.lrpar_table_items.specs.Cores.{IsAmong, core_set}
use Rattle.lrpar_table_items.specs.ItemSets.{IsInClosure}
use Rattle.lrpar_table_items.specs.Next.{kernel_at}
use Rattle.lrpar_table_items.specs.Working.{AreSuccessors}
use Rattle.lrpar_table_items.proofs.FaultLemmas.{ok_two}
use Rattle.lrpar_table_items.proofs.NumberLemmas.{cores_reached}
use Rattle.lrpar_table_items.proofs.states.make_item_set.Goals as goal

pub close_kernel-requires-clause-kernel : goal.close_kernel-requires-clause-kernel
close_kernel-requires-clause-kernel g c =
    subst (IsKernel c.args.grm.now) (sym c.in_ok-kernel.ensures) (c.requires.kernels.each c.args.number c.requires.number)

pub returns-clause-set : goal.returns-clause-set
returns-clause-set g c =
    let index = g.StorageT.StorageIndex.index in
    let grm = c.args.grm.now in
    let items = map (core_set index) c.in_ok-items.items.items in
    let path = path_at c.requires.kernels.paths c.args.number in
    ok_two c.new.result (λ set. set.items.items ≡ c.in_ok-items.items.items) (AreSuccessors index grm) _
    (λ set kept successors.
    let same = ap (map (core_set index)) kept in record {
      is = record {
        are = successors;
        cores = subst (AreCores grm) (sym same) c.in_ok-items.ensures.cores;
        path = path;
        reached =
            cores_reached grm (map (core_set index) c.in_ok-kernel.kernel.items) items (map (core_set index) set.items.items) path same
            c.in_ok-items.ensures.items
            (subst (λ k. IsReachedKernel grm k path) (sym c.in_ok-kernel.ensures) (c.requires.kernels.reached c.args.number c.requires.number));
      };
      closure =
          subst (λ all. AreSame (IsAmong all) (IsInClosure grm (IsAmong (kernel_at c.args.kernels.now c.args.number)))) (sym same)
          (subst (λ cores. AreSame (IsAmong items) (IsInClosure grm (IsAmong cores))) c.in_ok-kernel.ensures c.in_ok-items.ensures.items);
    })
    c.new.ensures.items c.new.ensures.successors
