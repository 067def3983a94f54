use Rattle.std.proofs.Common.{◌<◌, ◌+◌, ◌-◌, ◌∙◌, ap, arith, length, rules}
use Rattle.lrpar_table_shared_stacks.specs.SharedStacks.{AreTops, stack_at, stacks_of}
use Rattle.lrpar_table_shared_stacks.proofs.SharedStacksLemmas.{left_less, left_some, stacks_len}
use Rattle.lrpar_table_shared_stacks.proofs.shared_stacks.SharedStacks.number_below.Goals as goal

pub overflow_sub-below : goal.overflow_sub-below
overflow_sub-below g c =
    let tops = c.as_slice-tops.result.now in
    let st = stack_at (stacks_of tops) c.args.number in
    let same = ap (λ ts. length (stack_at (stacks_of ts) c.args.number)) c.as_slice-tops.ensures.keys ∙ ap (λ s. length (stack_at s.stacks c.args.number)) c.self.view_is in
    left_some tops st (length st - c.loop-left_out._left_out) c.loop-left_out.below (omega arith)
    (omega (arith, same, c.requires.deep, c.loop-left_out-test.true)) c.loop-left_out.invariant

pub bounds-tops-below : goal.bounds-tops-below
bounds-tops-below g c =
    let tops = c.as_slice-tops.result.now in
    let st = stack_at (stacks_of tops) c.args.number in
    let same = ap (λ ts. length (stack_at (stacks_of ts) c.args.number)) c.as_slice-tops.ensures.keys ∙ ap (λ s. length (stack_at s.stacks c.args.number)) c.self.view_is in
    let some = left_some tops st (length st - c.loop-left_out._left_out) c.loop-left_out.below (omega arith)
    (omega (arith, same, c.requires.deep, c.loop-left_out-test.true)) c.loop-left_out.invariant in
    omega (arith, some, stacks_len tops, c.loop-left_out.invariant.within)

pub offset_bounds-tops-below : goal.offset_bounds-tops-below
offset_bounds-tops-below g c =
    let tops = c.as_slice-tops.result.now in
    let st = stack_at (stacks_of tops) c.args.number in
    let same = ap (λ ts. length (stack_at (stacks_of ts) c.args.number)) c.as_slice-tops.ensures.keys ∙ ap (λ s. length (stack_at s.stacks c.args.number)) c.self.view_is in
    let some = left_some tops st (length st - c.loop-left_out._left_out) c.loop-left_out.below (omega arith)
    (omega (arith, same, c.requires.deep, c.loop-left_out-test.true)) c.loop-left_out.invariant in
    let within : c.loop-left_out.below - 1 < length tops = omega (arith, some, stacks_len tops, c.loop-left_out.invariant.within) in
    search rules

pub loop-left_out-preserved : goal.loop-left_out-preserved
loop-left_out-preserved g c =
    let tops = c.as_slice-tops.result.now in
    let st = stack_at (stacks_of tops) c.args.number in
    let out = c.loop-left_out._left_out in
    let same = ap (λ ts. length (stack_at (stacks_of ts) c.args.number)) c.as_slice-tops.ensures.keys ∙ ap (λ s. length (stack_at s.stacks c.args.number)) c.self.view_is in
    let each : AreTops tops = rw c.as_slice-tops.ensures.keys c.self.invariant.each in
    left_less tops each st (length st - out) (length st - (out + 1)) c.loop-left_out.below _ (omega arith)
    (omega (arith, same, c.requires.deep, c.loop-left_out-test.true)) c.loop-left_out.invariant
