use Rattle.std.proofs.Common.{◌≡◌, ◌<◌, ◌∙◌, ap, arith, refl, subst, sym, get_or, length}
use Rattle.std.proofs.lemmas.Bool.{false≢true}
use Rattle.std.proofs.lemmas.List.{get_or-map, length-map}
use Rattle.lrpar_messages.specs.Groups.{HaveSameKernel, numbers_of}
use Rattle.lrpar_messages.proofs.KernelLemmas.{none_more}
use Rattle.lrpar_messages.proofs.groups.is_in_group.Goals as goal

pub loop-first-preserved : goal.loop-first-preserved
loop-first-preserved g c =
    let index = g.StorageT.StorageIndex.index in
    let graph = c.args.sgraph.now in
    let firsts = c.args.firsts.now in
    let i = c.loop-first.first-index in
    let s = index c.args.state.0 in
    let first = c.first-item.result in
    none_more (λ n. n) graph (numbers_of index firsts) i s c.loop-first.invariant
    (λ d same.
    let read : get_or (numbers_of index firsts) i d ≡ index first.0 =
    get_or-map (λ state. index state.0) firsts i first d c.loop-first-test.true ∙ ap (λ state. index state.0) (sym c.first-item.is) in
    false≢true (sym c.if-have_same_kernel.false ∙ c.have_same_kernel.ensures.1 (subst (λ n. HaveSameKernel graph n s) read same)))

pub returns-then-have_same_kernel : goal.returns-then-have_same_kernel
returns-then-have_same_kernel g c =
    let index = g.StorageT.StorageIndex.index in
    let firsts = c.args.firsts.now in
    let i = c.loop-first.first-index in
    let first = c.first-item.result in
    let low : i < length (numbers_of index firsts) = let count = length-map firsts (λ state. index state.0) in omega (arith, count, c.loop-first-test.true) in
    let read : get_or (numbers_of index firsts) i (index first.0) ≡ index first.0 =
    get_or-map (λ state. index state.0) firsts i first (index first.0) c.loop-first-test.true ∙ ap (λ state. index state.0) (sym c.first-item.is) in
    (λ _. (index first.0, (i, low, read), c.have_same_kernel.ensures.0 c.if-have_same_kernel.true), λ _. refl)

pub returns : goal.returns
returns g c =
    let index = g.StorageT.StorageIndex.index in
    let firsts = c.args.firsts.now in (
      λ no. absurd (false≢true no),
      λ is.
          absurd (c.loop-first.invariant is.1.0 is.0
          (let low = is.1.1 in let count = length-map firsts (λ state. index state.0) in omega (arith, low, count, c.loop-first-test.false)) is.1.1
          (subst (λ n. HaveSameKernel c.args.sgraph.now n (index c.args.state.0)) (sym is.1.2) is.2)),
    )
