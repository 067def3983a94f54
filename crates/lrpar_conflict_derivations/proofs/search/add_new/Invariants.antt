use Rattle.lrpar_conflict_derivations.specs.Queue.{KeepsItems}
use Rattle.lrpar_conflict_derivations.proofs.search.add_new.Given as goal

-- no item was popped so far
abbrev pub invariant-loop-number : goal.invariant-loop-number
invariant-loop-number g l = KeepsItems l.fn.queue l.queue
