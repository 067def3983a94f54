use Rattle.std.proofs.Common.{◌≡◌, ◌<◌, ◌∙◌, below_more, sym, arith, length}
use Rattle.std.proofs.lemmas.Bool.{false≢true}
use Rattle.lrpar_table_items.specs.Next.{kernel_at, kernel_rows}
use Rattle.lrpar_table_merge.proofs.PropagateLemmas.{value_at}
use Rattle.lrpar_table_merge.proofs.distinct.find_twin.Goals as goal

pub returns-then-are_same : goal.returns-then-are_same
returns-then-are_same g c =
    let index = g.StorageT.StorageIndex.index in
    let kernels = c.args.kernels.now in
    let earlier = c.loop-earlier.earlier in
    let low : earlier < length kernels = omega (arith, c.loop-earlier-test.true, c.requires) in
    let one = value_at index kernels earlier c.index-kernels-earlier.result c.deref.result.now low c.index-kernels-earlier.is c.deref.ensures.value in
    let own = value_at index kernels c.args.number c.index-kernels-number.result c.deref-in-loop-earlier.result.now c.requires c.index-kernels-number.is c.deref-in-loop-earlier.ensures.value in
    record { twin = (c.loop-earlier-test.true, one ∙ c.are_same.ensures.0 c.if-are_same.true ∙ sym own); none = tt }

pub loop-earlier-preserved : goal.loop-earlier-preserved
loop-earlier-preserved g c =
    let index = g.StorageT.StorageIndex.index in
    let kernels = c.args.kernels.now in
    let rows = kernel_rows index kernels in
    let earlier = c.loop-earlier.earlier in
    let low : earlier < length kernels = omega (arith, c.loop-earlier-test.true, c.requires) in
    let one = value_at index kernels earlier c.index-kernels-earlier.result c.deref.result.now low c.index-kernels-earlier.is c.deref.ensures.value in
    let own = value_at index kernels c.args.number c.index-kernels-number.result c.deref-in-loop-earlier.result.now c.requires c.index-kernels-number.is c.deref-in-loop-earlier.ensures.value in
    below_more (λ s. kernel_at rows s ≡ kernel_at rows c.args.number → ⊥) earlier c.loop-earlier.invariant
    (λ same. false≢true (sym c.if-are_same.false ∙ c.are_same.ensures.1 (sym one ∙ same ∙ own)))

pub returns-clause-none : goal.returns-clause-none
returns-clause-none g c = λ s low. c.loop-earlier.invariant s (omega (arith, low, c.loop-earlier-test.false))
