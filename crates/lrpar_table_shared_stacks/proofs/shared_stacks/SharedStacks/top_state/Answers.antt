use Rattle.std.proofs.Common.{◌<◌, ◌-◌, ◌∙◌, Some, ap, arith, length, rules, subst, sym}
use Rattle.lrpar_table_shared_stacks.specs.SharedStacks.{stack_at}
use Rattle.lrpar_table_shared_stacks.proofs.SharedStacksLemmas.{some_states, stacks_len, top_is, top_read}
use Rattle.lrpar_table_shared_stacks.proofs.shared_stacks.SharedStacks.top_state.Goals as goal

pub overflow_sub-top : goal.overflow_sub-top
overflow_sub-top g c =
    let tops = c.self.inside.tops.keys in
    some_states tops c.args.number (subst (λ s. 0 < length (stack_at s.stacks c.args.number)) (sym c.self.view_is) c.requires.some)

pub bounds-as_slice-number : goal.bounds-as_slice-number
bounds-as_slice-number g c =
    let tops = c.self.inside.tops.keys in
    let some = some_states tops c.args.number (subst (λ s. 0 < length (stack_at s.stacks c.args.number)) (sym c.self.view_is) c.requires.some) in
    let within = subst (λ s. c.args.number < length s.stacks) (sym c.self.view_is) c.requires.within in
    omega (arith, some, within, stacks_len tops, ap length c.as_slice.ensures.keys)

pub offset_bounds-as_slice-number : goal.offset_bounds-as_slice-number
offset_bounds-as_slice-number g c =
    let tops = c.self.inside.tops.keys in
    let some = some_states tops c.args.number (subst (λ s. 0 < length (stack_at s.stacks c.args.number)) (sym c.self.view_is) c.requires.some) in
    let within = subst (λ s. c.args.number < length s.stacks) (sym c.self.view_is) c.requires.within in
    let inside : c.args.number - 1 < length c.as_slice.result.now = omega (arith, some, within, stacks_len tops, ap length c.as_slice.ensures.keys) in
    search rules

pub unwrap-requires : goal.unwrap-requires
unwrap-requires g c =
    let tops = c.self.inside.tops.keys in
    let some = some_states tops c.args.number (subst (λ s. 0 < length (stack_at s.stacks c.args.number)) (sym c.self.view_is) c.requires.some) in
    let within = subst (λ s. c.args.number < length s.stacks) (sym c.self.view_is) c.requires.within in
    let is = top_read tops c.self.invariant.each c.args.number (record { below = 0; height = 0; state = 0 }) some within in
    c.from_index.ensures.within.1 (rw c.as_slice.ensures.keys (c.self.invariant.fits (c.args.number - 1) _ is.at))

pub returns : goal.returns
returns g c =
    let tops = c.self.inside.tops.keys in
    let some = some_states tops c.args.number (subst (λ s. 0 < length (stack_at s.stacks c.args.number)) (sym c.self.view_is) c.requires.some) in
    let within = subst (λ s. c.args.number < length s.stacks) (sym c.self.view_is) c.requires.within in
    let is = top_read tops c.self.invariant.each c.args.number (record { below = 0; height = 0; state = 0 }) some within in
    let back = rw (c.unwrap.ensures, c.as_slice.ensures.keys) at c.from_index.ensures.back in
    rw (← c.self.view_is) (top_is tops c.args.number _ is ∙ ap Some (sym back))
