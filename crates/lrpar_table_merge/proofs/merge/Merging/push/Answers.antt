use Rattle.std.proofs.Common.{◌≡◌, ◌<◌, ◌≤◌, ◌∙◌, inl, inr, ◌++◌, ◌∷◌, [], refl, sym, ap, subst, arith, length, not}
use Rattle.std.proofs.lemmas.Bool.{cases_lt, false≢true}
use Rattle.lrpar_table_items.specs.CoreOrder.{IsKernel}
use Rattle.lrpar_table_merge.specs.Merging.{IsMade, NoneIsCompatible, first_prod, kernels_of}
use Rattle.lrpar_table_merge.proofs.ListedLemmas.{listed_read}
use Rattle.lrpar_table_merge.proofs.MergingLemmas.{merging_push, too_many}
use Rattle.lrpar_table_merge.proofs.WorkLemmas.{work_push}
use Rattle.lrpar_table_merge.proofs.merge.Merging.push.Goals as goal

pub returns-then-number-max_states-clause-fault : goal.returns-then-number-max_states-clause-fault
returns-then-number-max_states-clause-fault g c =
    too_many g.StorageT.StorageIndex.index c.args.grm.now c.args.max_states g.StorageT.StorageIndex.limit c.args.max_states c.args.self.now
    c.requires.merging _ c.requires.kernel.is c.requires.kernel.made c.requires.fresh (omega (arith, c.if-number-max_states.true, c.len-number.ensures))

pub returns-then-is_none-clause-fault : goal.returns-then-is_none-clause-fault
returns-then-is_none-clause-fault g c =
    let limit = g.StorageT.StorageIndex.limit in
    let states = c.args.self.now.states.items in
    too_many g.StorageT.StorageIndex.index c.args.grm.now c.args.max_states limit limit c.args.self.now c.requires.merging _ c.requires.kernel.is
    c.requires.kernel.made c.requires.fresh (elim (cases_lt c.len-number.result limit) as (λ _. limit ≤ length states) [
      | inl low ↦ absurd (false≢true (sym (c.is_none.ensures ∙ ap not c.if-is_none.true) ∙ c.from_index.ensures.within.1 low))
      | inr past ↦ omega (arith, past, c.len-number.ensures)
    ])

pub returns : goal.returns
returns g c =
    let index = g.StorageT.StorageIndex.index in
    let limit = g.StorageT.StorageIndex.limit in
    let grm = c.args.grm.now in
    let before = c.args.self.now in
    let number = c.len-number.result in
    let at : number ≡ length before.states.items = omega (arith, c.len-number.ensures) in
    let fits = c.from_index.ensures.within.0 (c.is_none.ensures ∙ ap not c.if-is_none.false) in
    let room : length before.states.items < c.args.max_states = omega (arith, at, c.if-number-max_states.false) in
    let same = c.in_ok-kernel.ensures in
    let kernel = subst (IsKernel grm) (sym same) c.requires.kernel.is in
    let list = c.push.new.self in
    let items =
    c.in_ok-push.ensures.items ∙ ap (λ xs. xs ++ number ∷ []) (listed_read before.by_prod.items c.args.prod c.index_mut.result.now c.requires.prod c.index_mut.ensures.value) in
    record {
      goes_on = record {
        merging =
            merging_push index grm c.args.max_states limit before c.requires.merging _ _ c.args.prod number list c.in_ok-push-2.ensures.items c.requires.prod refl
            at items (ap first_prod same ∙ c.requires.begins) kernel (subst (IsMade grm) (sym same) c.requires.kernel.made)
            (subst (NoneIsCompatible (kernels_of index before.states.items)) (sym same) c.requires.fresh) room (omega (arith, at, fits));
        work = work_push index grm c.args.max_states before.states.items _ _ c.in_ok-push-2.ensures.items room kernel;
      };
      fault = tt;
    }
