use Rattle.std.proofs.Common.{sym, subst, arith, map}
use Rattle.lrpar_grammar.specs.Grammar.{Nonterminal, Terminal}
use Rattle.lrpar_table_items.specs.CoreOrder.{IsKernel}
use Rattle.lrpar_table_items.specs.Cores.{core_set}
use Rattle.lrpar_table_merge.specs.Merging.{IsMade}
use Rattle.lrpar_table_merge.specs.StoredKernels.{AreMadeOf}
use Rattle.lrpar_table_merge.proofs.MergingLemmas.{kernel_read, made_kernels, made_read}
use Rattle.lrpar_table_merge.proofs.merge.Merging.merge_successors.Goals as goal

pub expand-requires-clause-kernel : goal.expand-requires-clause-kernel
expand-requires-clause-kernel g c =
    let index = g.StorageT.StorageIndex.index in
    subst (λ cores. IsKernel c.args.grm.now (map (core_set index) cores)) (sym c.deref.ensures.value)
    (kernel_read index c.args.grm.now c.args.self.now.states.items c.args.number c.index.result.now c.requires.number c.index.ensures c.requires.merging.kernels)

pub merge_kernels-requires-clause-kernels : goal.merge_kernels-requires-clause-kernels
merge_kernels-requires-clause-kernels g c =
    let index = g.StorageT.StorageIndex.index in
    let grm = c.args.grm.now in
    let kernel = map (core_set index) c.deref.result.now in
    let all = c.in_ok-successors.ensures.expanded in
    let made : IsMade grm kernel =
    subst (λ cores. IsMade grm (map (core_set index) cores)) (sym c.deref.ensures.value)
    (made_read index grm c.args.self.now.states.items c.args.number c.index.result.now c.requires.number c.index.ensures c.requires.merging.made) in
    subst (AreMadeOf index grm) (sym c.deref-2.ensures.value)
    (made_kernels index grm kernel (map (core_set index) c.in_ok-successors.successors.items.items) Nonterminal _ made all.cores all.items all.next.rules)

pub merge_kernels-requires-2-clause-kernels : goal.merge_kernels-requires-2-clause-kernels
merge_kernels-requires-2-clause-kernels g c =
    let index = g.StorageT.StorageIndex.index in
    let grm = c.args.grm.now in
    let kernel = map (core_set index) c.deref.result.now in
    let all = c.in_ok-successors.ensures.expanded in
    let made : IsMade grm kernel =
    subst (λ cores. IsMade grm (map (core_set index) cores)) (sym c.deref.ensures.value)
    (made_read index grm c.args.self.now.states.items c.args.number c.index.result.now c.requires.number c.index.ensures c.requires.merging.made) in
    subst (AreMadeOf index grm) (sym c.deref-3.ensures.value)
    (made_kernels index grm kernel (map (core_set index) c.in_ok-successors.successors.items.items) Terminal _ made all.cores all.items all.next.tokens)

pub merge_kernels-requires-2-clause-merging : goal.merge_kernels-requires-2-clause-merging
merge_kernels-requires-2-clause-merging g c = c.in_ok-rules.ensures.goes_on.merging

pub returns-clause-goes_on : goal.returns-clause-goes_on
returns-clause-goes_on g c =
    let rules = c.in_ok-rules.ensures.goes_on in
    let tokens = c.in_ok-tokens.ensures.goes_on in
    let first = rules.work in
    let second = tokens.work in record { merging = tokens.merging; work = omega (arith, first, second) }
