use Rattle.std.proofs.Common.{◌-◌, length}
use Rattle.lrpar_table_shared_stacks.specs.SharedStacks.{stack_at, stacks_of}
use Rattle.lrpar_table_shared_stacks.proofs.SharedStacksLemmas.{IsLeft}
use Rattle.lrpar_table_shared_stacks.proofs.shared_stacks.SharedStacks.number_below.Given as goal

-- as many states are left out as were counted
abbrev pub invariant-loop-left_out : goal.invariant-loop-left_out
invariant-loop-left_out g l =
    let st = stack_at (stacks_of l.tops) l.fn.number in
    IsLeft l.tops st (length st - l._left_out) l.below
