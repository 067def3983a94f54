use Rattle.std.proofs.Common.{sym, ap, subst, map}
use Rattle.lrpar_table_items.specs.Canonical.{AreSame}
use Rattle.lrpar_table_items.specs.CoreOrder.{AreCores}
use Rattle.lrpar_table_items.specs.Cores.{IsAmong, core_set}
use Rattle.lrpar_table_items.specs.ItemSets.{IsInClosure}
use Rattle.lrpar_table_merge.proofs.expansions.expand.Goals as goal

pub returns-clause-expanded : goal.returns-clause-expanded
returns-clause-expanded g c =
    let index = g.StorageT.StorageIndex.index in
    let grm = c.args.grm.now in
    let items = map (core_set index) c.in_ok-items.items.items in
    let same = sym (ap (map (core_set index)) c.in_ok-successors.ensures.items) in
    let are = subst (λ cores. AreSame (IsAmong items) (IsInClosure grm (IsAmong cores))) c.in_ok-copy.ensures c.in_ok-items.ensures.items in record {
      cores = subst (AreCores grm) same c.in_ok-items.ensures.cores;
      items = subst (λ cores. AreSame (IsAmong cores) (IsInClosure grm (IsAmong (map (core_set index) c.args.kernel.now)))) same are;
      next = c.in_ok-successors.ensures.successors;
    }
