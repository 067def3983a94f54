use Rattle.std.proofs.Common.{◌≡◌, ◌-◌, arith, length}
use Rattle.std.proofs.lemmas.Result.{on_ok_weaker}
use Rattle.lrpar_table_stacks.proofs.StepLemmas.{put_states}
use Rattle.lrpar_table_stacks.proofs.state_stack.VecStIdxStateStack.reduce.Goals as goal

pub returns-clause-states : goal.returns-clause-states
returns-clause-states g c =
    let items = c.args.self.now.items in
    let index = g.StorageT.StorageIndex.index in
    let left : c.len.result - c.args.by.symbols ≡ length items - c.args.by.symbols = omega (arith, c.len.ensures) in
    on_ok_weaker c.put_at.result (put_states (λ x. index x.0) items (c.len.result - c.args.by.symbols) c.args.by.symbols c.args.by.next c.put_at.new.states.items left)
    c.put_at.ensures.put
