use Rattle.std.proofs.Common.{◌≡◌, ◌++◌, take}
use Rattle.lrpar_table_shared_stacks.specs.SharedStacks.{Extends, IsNumberOf, stack_at}
use Rattle.lrpar_table_shared_stacks.proofs.shared_stacks.SharedStacks.number.Given as goal

-- the number is that of the stack with so many of the list's states
abbrev pub invariant-loop-at : goal.invariant-loop-at
invariant-loop-at g l = record {
  extends : Extends l.fn.self l.self;
  below : l.self.below ≡ l.fn.self.below;
  above : l.self.above ≡ l.fn.self.above;
  number : IsNumberOf (stack_at l.fn.self.stacks l.fn.self.below ++ take l.at l.fn.self.above) l.self.stacks l.number;
}
