use Rattle.std.proofs.Common.{◌≡◌, ◌∷◌, ◌++◌, ◌∙◌, [], sym, ap, subst, map}
use Rattle.lrpar_table_items.specs.Canonical.{AreSame}
use Rattle.lrpar_table_items.specs.Cores.{IsAmong, core_set}
use Rattle.lrpar_table_items.specs.ItemSets.{IsStartItem}
use Rattle.lrpar_table_items.specs.CoreOrder.{IsKernel}
use Rattle.lrpar_table_items.proofs.NumberLemmas.{start_items, start_kernel_is}
use Rattle.lrpar_table_items.proofs.states.start_kernel.Goals as goal

pub returns-clause-start : goal.returns-clause-start
returns-clause-start g c =
    let view = core_set g.StorageT.StorageIndex.index in
    let one : map view c.push.new.self.items ≡ view c.in_ok-core.core ∷ [] =
    ap (map view) (c.in_ok-push.ensures.items ∙ ap (λ cs. cs ++ c.in_ok-core.core ∷ []) c.new-kernel.ensures.items) in
    subst (λ cores. AreSame (IsAmong cores) (IsStartItem c.args.grm.now)) (sym one)
    (start_items c.args.grm.now (view c.in_ok-core.core) c.in_ok-core.ensures.core)

pub returns-clause-kernel : goal.returns-clause-kernel
returns-clause-kernel g c =
    let view = core_set g.StorageT.StorageIndex.index in
    let one : map view c.push.new.self.items ≡ view c.in_ok-core.core ∷ [] =
    ap (map view) (c.in_ok-push.ensures.items ∙ ap (λ cs. cs ++ c.in_ok-core.core ∷ []) c.new-kernel.ensures.items) in
    subst (IsKernel c.args.grm.now) (sym one) (start_kernel_is c.args.grm.now (view c.in_ok-core.core) c.in_ok-core.ensures.core)
