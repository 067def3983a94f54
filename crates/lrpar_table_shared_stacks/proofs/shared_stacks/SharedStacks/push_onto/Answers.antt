use Rattle.std.proofs.Common.{◌≡◌, ◌+◌, ◌∙◌, ◌++◌, ◌∷◌, ◌<◌, ◌^◌, [], ap, arith, length, subst, sym}
use Rattle.lrpar_table_shared_stacks.specs.SharedStacks.{stack_at, stacks_of}
use Rattle.lrpar_table_shared_stacks.proofs.SharedStacksLemmas.{place_most, pushed_by, shared_on, stacks_len}
use Rattle.lrpar_table_shared_stacks.proofs.shared_stacks.SharedStacks.push_onto.Goals as goal

pub overflow_add-result : goal.overflow_add-result
overflow_add-result g c =
    let tops = c.self.inside.tops.keys in
    let stored = c.in_ok-place.ensures.stored in
    let most = place_most tops c.insert_full.new.self.keys _ stored.0 c.in_ok-place.place c.in_ok-place.ensures.keys stored.1 in
    let few = subst (λ s. length s.stacks < 2 ^ 63) (sym c.self.view_is) c.height_of.ensures.few in
    omega (arith, most, few, stacks_len tops)

pub invariant_of-self-2 : goal.invariant_of-self-2
invariant_of-self-2 g c =
    let within = subst (λ s. c.args.number < length s.stacks) (sym c.self.view_is) c.requires in
    let height = subst (λ s. c.height_of.result ≡ length (stack_at s.stacks c.args.number)) (sym c.self.view_is) c.height_of.ensures.is in
    let push =
    pushed_by g.StorageT.StorageIndex.limit c.self.inside.tops.keys c.insert_full.new.self.keys c.self.inside.below c.args.number c.height_of.result
    c.to_index.result c.in_ok-place.place c.self.invariant within height c.to_index.ensures.within c.in_ok-place.ensures.keys c.in_ok-place.ensures.stored in
    shared_on g.StorageT.StorageIndex.limit c.self.inside.tops.keys c.insert_full.new.self.keys c.self.inside.below (c.in_ok-place.place + 1) c.self.invariant.within
    push.shares push.extends

pub returns-clause-pushed : goal.returns-clause-pushed
returns-clause-pushed g c =
    let within = subst (λ s. c.args.number < length s.stacks) (sym c.self.view_is) c.requires in
    let height = subst (λ s. c.height_of.result ≡ length (stack_at s.stacks c.args.number)) (sym c.self.view_is) c.height_of.ensures.is in
    let push =
    pushed_by g.StorageT.StorageIndex.limit c.self.inside.tops.keys c.insert_full.new.self.keys c.self.inside.below c.args.number c.height_of.result
    c.to_index.result c.in_ok-place.place c.self.invariant within height c.to_index.ensures.within c.in_ok-place.ensures.keys c.in_ok-place.ensures.stored in
    record {
      within = push.shares.within;
      means = push.stack ∙ ap (λ n. stack_at (stacks_of c.self.inside.tops.keys) c.args.number ++ n ∷ []) c.to_index.ensures.value
          ∙ ap (λ s. stack_at s.stacks c.args.number ++ g.StorageT.StorageIndex.index c.args.state.0 ∷ []) c.self.view_is;
    }

pub returns-clause-extends : goal.returns-clause-extends
returns-clause-extends g c =
    let within = subst (λ s. c.args.number < length s.stacks) (sym c.self.view_is) c.requires in
    let height = subst (λ s. c.height_of.result ≡ length (stack_at s.stacks c.args.number)) (sym c.self.view_is) c.height_of.ensures.is in
    let push =
    pushed_by g.StorageT.StorageIndex.limit c.self.inside.tops.keys c.insert_full.new.self.keys c.self.inside.below c.args.number c.height_of.result
    c.to_index.result c.in_ok-place.place c.self.invariant within height c.to_index.ensures.within c.in_ok-place.ensures.keys c.in_ok-place.ensures.stored in
    (push.extends.0, push.extends.1 ∙ ap (λ s. s.stacks ++ push.extends.0) c.self.view_is)
