use Rattle.std.proofs.Common.{◌≡◌, ◌∙◌, sym, ap, subst, arith, length}
use Rattle.lrpar_table_first.proofs.GrowthLemmas.{lent_back}
use Rattle.lrpar_table_merge.specs.StoredKernels.{HaveCores}
use Rattle.lrpar_table_merge.proofs.distinct.make_distinct_states.Goals as goal

pub loop-init : goal.loop-init
loop-init g c = record {
  sets = c.requires.sets;
  cores = c.in_ok-kernels.ensures.cores c.args.grm.now c.requires.kernels;
  len = (let len = c.in_ok-kernels.ensures.len in omega (arith, len, c.len-rounds.ensures));
}

pub propagate-requires-clause-cores : goal.propagate-requires-clause-cores
propagate-requires-clause-cores g c =
    let index = g.StorageT.StorageIndex.index in
    let grm = c.args.grm.now in
    subst (HaveCores index grm) (sym c.deref_mut.ensures.value)
    (c.in_ok-kernels-2.ensures.cores grm (subst (HaveCores index grm) (sym c.deref-in-loop.ensures.value) c.loop.invariant.cores))

pub loop-preserved : goal.loop-preserved
loop-preserved g c =
    let index = g.StorageT.StorageIndex.index in
    let grm = c.args.grm.now in
    let old = c.in_ok-kernels-2.kernels.items in
    let new = c.propagate.new.kernels in
    let full : c.in_ok-kernels-2.kernels.len ≡ length old = c.in_ok-kernels-2.kernels.ok.0 in
    let count : length new ≡ length old = c.in_ok-propagate.ensures.len ∙ ap (λ kernels. length kernels) c.deref_mut.ensures.value in
    let back = lent_back old new c.in_ok-kernels-2.kernels.len (sym full) (count ∙ sym full) in
    let held : HaveCores index grm new = λ k d low. (c.in_ok-propagate.ensures.held.held.filled k d low).of_grammar in
    let fewer = c.in_ok-kernels-2.ensures.len in
    let before = ap (λ kernels. length kernels) c.deref-in-loop.ensures.value in
    let most = c.loop.invariant.len in record {
      sets = c.in_ok-propagate.ensures.sets;
      cores = subst (HaveCores index grm) (sym back) held;
      len = (let same = ap (λ kernels. length kernels) back in omega (arith, same, count, fewer, before, most));
    }
