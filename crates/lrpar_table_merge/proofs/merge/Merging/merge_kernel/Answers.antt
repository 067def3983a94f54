use Rattle.std.proofs.Common.{◌≡◌, ◌<◌, ◌∙◌, refl, sym, ap, subst, arith, length, map}
use Rattle.lrpar_table_items.specs.Cores.{core_set}
use Rattle.lrpar_table_merge.specs.Compatible.{HaveSameCores}
use Rattle.lrpar_table_merge.specs.Merging.{NoneOfIsCompatible, first_prod, kernels_of, work_of}
use Rattle.lrpar_table_merge.specs.United.{AreUnited}
use Rattle.lrpar_table_merge.proofs.ListedLemmas.{begins_is, listed_read, none_compatible}
use Rattle.lrpar_table_merge.proofs.MergingLemmas.{first_low, kernel_read, kernel_rooms, merging_united, some_cores_of, state_value}
use Rattle.lrpar_table_merge.proofs.WorkLemmas.{work_set}
use Rattle.lrpar_table_merge.proofs.merge.Merging.merge_kernel.Goals as goal

pub index-requires : goal.index-requires
index-requires g c =
    let index = g.StorageT.StorageIndex.index in
    let first = first_low index c.args.grm.now c.args.kernel.now c.index-kernel-0.result c.requires.kernel.is in
    let prods = c.requires.merging.prods in
    omega (arith, first, prods, c.from-first.ensures, c.args.self.now.by_prod.ok.0)

pub push-requires-clause-prod : goal.push-requires-clause-prod
push-requires-clause-prod g c =
    let index = g.StorageT.StorageIndex.index in
    let first = first_low index c.args.grm.now c.args.kernel.now c.index-kernel-0.result c.requires.kernel.is in
    let prods = c.requires.merging.prods in
    omega (arith, first, prods, c.from-first.ensures)

pub push-requires-clause-begins : goal.push-requires-clause-begins
push-requires-clause-begins g c =
    let index = g.StorageT.StorageIndex.index in
    let begins = begins_is index c.args.kernel.now c.index-kernel-0.result (some_cores_of index c.args.grm.now c.args.kernel.now c.requires.kernel.is) in
    omega (arith, begins, c.from-first.ensures)

pub push-requires-clause-fresh : goal.push-requires-clause-fresh
push-requires-clause-fresh g c =
    let index = g.StorageT.StorageIndex.index in
    let before = c.args.self.now in
    let kernel = map (core_set index) c.args.kernel.now in
    let p = c.from-first.result in
    let first = first_low index c.args.grm.now c.args.kernel.now c.index-kernel-0.result c.requires.kernel.is in
    let prods = c.requires.merging.prods in
    let low : p < length before.by_prod.items = omega (arith, first, prods, c.from-first.ensures) in
    let begins : first_prod kernel ≡ p = push-requires-clause-begins g c in
    let read = c.deref.ensures.value ∙ listed_read before.by_prod.items p c.index.result.now low c.index.ensures in
    none_compatible before.by_prod.items (kernels_of index before.states.items) c.requires.merging.listed kernel p begins
    (subst (λ numbers. NoneOfIsCompatible (kernels_of index before.states.items) numbers kernel) read c.in-None.ensures.none)

pub grow-requires : goal.grow-requires
grow-requires g c =
    let index = g.StorageT.StorageIndex.index in
    let grm = c.args.grm.now in
    let states = c.args.self.now.states.items in
    let state = c.index_mut.result.now in
    let low = c.in-Some.ensures.low in
    let kernel = map (core_set index) c.args.kernel.now in
    let own = state_value index states c.in-Some.number state low ∙ sym (ap (λ read. map (core_set index) read.kernel.items) c.index_mut.ensures.value) in
    let same = subst (λ cores. HaveSameCores cores kernel) own c.in-Some.ensures.compatible.same in record {
      same = same;
      room =
          kernel_rooms grm (map (core_set index) state.kernel.items) kernel same
          (kernel_read index grm states c.in-Some.number state low c.index_mut.ensures.value c.requires.merging.kernels) c.requires.kernel.is;
    }

pub returns-in-Some : goal.returns-in-Some
returns-in-Some g c =
    let index = g.StorageT.StorageIndex.index in
    let grm = c.args.grm.now in
    let before = c.args.self.now in
    let states = before.states.items in
    let number = c.in-Some.number in
    let state = c.index_mut.result.now in
    let new = c.grow.new.state in
    let low = c.in-Some.ensures.low in
    let value = c.index_mut.ensures.value in
    let next = map (core_set index) c.args.kernel.now in
    let kernel = kernel_read index grm states number state low value c.requires.merging.kernels in record {
      goes_on = record {
        merging =
            merging_united index grm c.args.max_states g.StorageT.StorageIndex.limit before c.requires.merging _ number new state next low refl refl
            (subst (λ cores. HaveSameCores cores next) (state_value index states number state low) c.in-Some.ensures.compatible.same)
            (subst (λ (read : _). AreUnited (map (core_set index) read.kernel.items) next (map (core_set index) new.kernel.items)) value c.grow.ensures.united)
            (c.grow.ensures.kernel grm kernel) c.requires.kernel.made;
        work =
            work_set index grm c.args.max_states states _ number new state refl low
            (let own = ap (work_of index) value in let less = c.grow.ensures.work in omega (arith, own, less));
      };
      fault = tt;
    }
