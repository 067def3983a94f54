use Rattle.std.proofs.Common.{◌<◌, ◌≤◌, ◌-◌, ap, arith, length, rules, subst, sym}
use Rattle.lrpar_table_shared_stacks.proofs.SharedStacksLemmas.{height_most, no_states, stacks_len, top_read}
use Rattle.lrpar_table_shared_stacks.proofs.shared_stacks.SharedStacks.height_of.Goals as goal

pub bounds-tops-number : goal.bounds-tops-number
bounds-tops-number g c =
    let tops = c.self.inside.tops.keys in
    let within = subst (λ s. c.args.number < length s.stacks) (sym c.self.view_is) c.requires in
    omega (arith, within, stacks_len tops, ap length c.as_slice-tops.ensures.keys)

pub offset_bounds-tops-number : goal.offset_bounds-tops-number
offset_bounds-tops-number g c =
    let tops = c.self.inside.tops.keys in
    let within = subst (λ s. c.args.number < length s.stacks) (sym c.self.view_is) c.requires in
    let inside : c.args.number - 1 < length c.as_slice-tops.result.now =
    omega (arith, within, stacks_len tops, ap length c.as_slice-tops.ensures.keys) in
    search rules

pub returns-in-0-clause-is : goal.returns-in-0-clause-is
returns-in-0-clause-is g c = rw (← c.self.view_is, c.in-0.is) (sym (ap length (no_states c.self.inside.tops.keys)))

pub returns-in_default-clause-is : goal.returns-in_default-clause-is
returns-in_default-clause-is g c =
    let tops = c.self.inside.tops.keys in
    let within = subst (λ s. c.args.number < length s.stacks) (sym c.self.view_is) c.requires in
    rw (← c.self.view_is, c.as_slice-tops.ensures.keys) (top_read tops c.self.invariant.each c.args.number _ (omega arith) within).height

pub returns-in_default-clause-most : goal.returns-in_default-clause-most
returns-in_default-clause-most g c =
    let tops = c.self.inside.tops.keys in
    let within = subst (λ s. c.args.number < length s.stacks) (sym c.self.view_is) c.requires in
    rw c.as_slice-tops.ensures.keys
    (subst (λ n. n ≤ c.args.number) (sym (top_read tops c.self.invariant.each c.args.number _ (omega arith) within).height)
    (height_most tops c.self.invariant.each c.args.number within))

pub returns-in-0-clause-few : goal.returns-in-0-clause-few
returns-in-0-clause-few g c =
    let tops = c.self.inside.tops.keys in
    rw (← c.self.view_is) (omega (arith, stacks_len tops, ap length c.as_slice-tops.ensures.keys, c.as_slice-tops.type_inv.1))

pub returns-in_default-clause-few : goal.returns-in_default-clause-few
returns-in_default-clause-few g c =
    let tops = c.self.inside.tops.keys in
    rw (← c.self.view_is) (omega (arith, stacks_len tops, ap length c.as_slice-tops.ensures.keys, c.as_slice-tops.type_inv.1))
