use Rattle.lrpar_table_shared_stacks.specs.SharedStacks.{stack_at, stacks_of}
use Rattle.lrpar_table_shared_stacks.proofs.CurrentLemmas.{top_above}
use Rattle.lrpar_table_shared_stacks.proofs.shared_stacks.SharedStacksStateStack.top.Goals as goal

pub returns-in-Some : goal.returns-in-Some
returns-in-Some g c =
    let index = g.StorageT.StorageIndex.index in
    let inside = c.self.inside in
    rw (← c.self.view_is)
    (top_above (λ x. index x.0) (stack_at (stacks_of inside.tops.keys) inside.below) inside.above.items c.in-Some.top.now
    (rw c.deref.ensures.value at c.in-Some.ensures.value))
