use Rattle.std.proofs.Common.{◌∙◌, sym, ap, subst, All, map}
use Rattle.lrpar_table_items.specs.Cores.{IsAmong, IsCoreOf, core_set}
use Rattle.lrpar_table_merge.specs.Compatible.{lr0_core}
use Rattle.lrpar_table_merge.proofs.ClearLemmas.{back}
use Rattle.lrpar_table_merge.proofs.clear.clear_kernel.Goals as goal

pub returns-clause-cores : goal.returns-clause-cores
returns-clause-cores g c =
    let kernel = c.args.kernel.now in
    let index = g.StorageT.StorageIndex.index in
    let value = c.deref_mut.ensures.value in
    let is = back kernel.items c.deref_mut.result.now c.clear_cores.new.kernel kernel.len (sym kernel.ok.0) value c.clear_cores.auto.kernel in
    λ grm are.
    subst (λ items. All (IsCoreOf grm) (map (core_set index) items)) (sym is)
    (c.clear_cores.ensures.cores grm (subst (λ items. All (IsCoreOf grm) (map (core_set index) items)) (sym value) are))

pub returns-clause-same : goal.returns-clause-same
returns-clause-same g c =
    let kernel = c.args.kernel.now in
    let rows = map (core_set g.StorageT.StorageIndex.index) in
    let value = c.deref_mut.ensures.value in
    let is = back kernel.items c.deref_mut.result.now c.clear_cores.new.kernel kernel.len (sym kernel.ok.0) value c.clear_cores.auto.kernel in
    ap (λ items. map lr0_core (rows items)) is ∙ c.clear_cores.ensures.lr0 ∙ ap (λ items. map lr0_core (rows items)) value

pub returns-clause-none : goal.returns-clause-none
returns-clause-none g c =
    let kernel = c.args.kernel.now in
    let index = g.StorageT.StorageIndex.index in
    let is = back kernel.items c.deref_mut.result.now c.clear_cores.new.kernel kernel.len (sym kernel.ok.0) c.deref_mut.ensures.value c.clear_cores.auto.kernel in
    λ x h. c.clear_cores.ensures.none x (subst (λ items. IsAmong (map (core_set index) items) x) is h)
