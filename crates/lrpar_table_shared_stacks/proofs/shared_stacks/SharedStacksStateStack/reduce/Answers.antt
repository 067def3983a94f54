use Rattle.std.proofs.Common.{◌∙◌, ◌++◌, ◌∷◌, [], ap, subst, sym, take, append-nil}
use Rattle.lrpar_table_shared_stacks.specs.SharedStacks.{IsPartLeft, stack_at, stacks_of}
use Rattle.lrpar_table_shared_stacks.proofs.CurrentLemmas.{pushed_left}
use Rattle.lrpar_table_shared_stacks.proofs.shared_stacks.SharedStacksStateStack.reduce.Goals as goal

pub returns-clause-reduces : goal.returns-clause-reduces
returns-clause-reduces g c = ([], ap (λ s. s.stacks) c.self.view_is ∙ sym (append-nil c.args.self.now.stacks))

pub returns-clause-states : goal.returns-clause-states
returns-clause-states g c =
    let index = g.StorageT.StorageIndex.index in
    let inside = c.self.inside in
    let below = c.part_left-below.result.0 in
    let left = c.part_left-below.result.1 in
    let part = subst (λ s. IsPartLeft s c.args.by.symbols below left) (sym c.self.view_is) c.part_left-below.ensures.left in
    let put = c.push_reserved.ensures.items ∙ ap (λ xs. xs ++ c.args.by.next ∷ []) (c.truncate.ensures.items ∙ ap (take left) c.in_ok-reserve.ensures.items) in
    rw (← c.self.view_is)
    (pushed_left (λ x. index x.0) (stack_at (stacks_of inside.tops.keys) below) _ inside.above.items left c.args.by.next c.push_reserved.new.self.items part put)
