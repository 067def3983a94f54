use Rattle.std.proofs.Common.{◌∙◌, sym, ap, subst, map}
use Rattle.lrpar_table_items.specs.Cores.{core_set}
use Rattle.lrpar_table_items.specs.KernelMap.{NumbersKernels}
use Rattle.lrpar_table_items.specs.Next.{kernel_rows}
use Rattle.lrpar_table_items.proofs.KernelMapLemmas.{new_is_numbered, others_stay, same_numbers}
use Rattle.lrpar_grammar_places.proofs.FaultLemmas.{nothing_done}
use Rattle.lrpar_table_items.proofs.kernels.Kernels.push.Goals as goal

pub invariant_of-self : goal.invariant_of-self
invariant_of-self g c =
    let index = g.StorageT.StorageIndex.index in
    same_numbers index (kernel_rows index c.self.inside.kernels.items) c.self.inside.numbers c.insert.new.self c.in_err-insert.ensures.err c.self.invariant

pub invariant_of-self-in_err-push : goal.invariant_of-self-in_err-push
invariant_of-self-in_err-push g c =
    let index = g.StorageT.StorageIndex.index in
    let copy = c.in_ok-key.ensures ∙ ap (map (core_set index)) c.deref.ensures.value in
    subst (λ items. NumbersKernels index (kernel_rows index items) c.insert.new.self) (sym c.in_err-push.ensures.items)
    (others_stay index g.StorageT.Ord.cmp g.met.StorageT.StorageIndex.cmp_law c.self.inside.kernels.items c.self.inside.numbers c.insert.new.self
    c.self.invariant c.args.self.now c.self.view_is c.args.kernel c.in_ok-key.key copy c.args.state c.requires.fresh c.in_ok-insert.ensures.updates)

pub invariant_of-self-2 : goal.invariant_of-self-2
invariant_of-self-2 g c =
    let index = g.StorageT.StorageIndex.index in
    let copy = c.in_ok-key.ensures ∙ ap (map (core_set index)) c.deref.ensures.value in
    subst (λ items. NumbersKernels index (kernel_rows index items) c.insert.new.self) (sym c.in_ok-push.ensures.items)
    (new_is_numbered index g.StorageT.Ord.cmp g.met.StorageT.StorageIndex.cmp_law c.self.inside.kernels.items c.self.inside.numbers c.insert.new.self
    c.self.invariant c.args.self.now c.self.view_is c.args.kernel c.in_ok-key.key copy c.args.state c.requires.fresh c.in_ok-insert.ensures.updates
    c.requires.next)

pub returns-in_err-key-clause-pushed : goal.returns-in_err-key-clause-pushed
returns-in_err-key-clause-pushed g c = nothing_done c.from_residual.result _ _ c.from_residual.ensures.1

pub returns-in_err-insert-clause-pushed : goal.returns-in_err-insert-clause-pushed
returns-in_err-insert-clause-pushed g c = nothing_done c.from_residual-in_err-insert.result _ _ c.from_residual-in_err-insert.ensures.1

pub returns-in_err-push-clause-pushed : goal.returns-in_err-push-clause-pushed
returns-in_err-push-clause-pushed g c = nothing_done c.from_residual-in_err-push.result _ _ c.from_residual-in_err-push.ensures.1
