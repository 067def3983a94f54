use Rattle.lrpar_parse_repair.proofs.EngineLemmas.{unmoved}
use Rattle.lrpar_parse_repair.proofs.engine.Engine.try_step.Goals as goal

pub returns-in-Insert-clause-taken : goal.returns-in-Insert-clause-taken
returns-in-Insert-clause-taken g c = rw c.in-Insert.is c.insert.ensures.taken

pub returns-in-Shift-clause-taken : goal.returns-in-Shift-clause-taken
returns-in-Shift-clause-taken g c = rw c.in-Shift.is c.shift.ensures.taken

pub returns-then-place-self-clause-moved : goal.returns-then-place-self-clause-moved
returns-then-place-self-clause-moved g c =
    let d = c.args.self.now.checked.now in
    let kind = g.S.StateStack in
    unmoved kind.states kind.reduces g.S.ShiftStack.shifts d.grammar d.table d.cap 1 c.args.stack.now

pub returns-else-place-self-clause-moved : goal.returns-else-place-self-clause-moved
returns-else-place-self-clause-moved g c =
    let d = c.args.self.now.checked.now in
    let kind = g.S.StateStack in
    unmoved kind.states kind.reduces g.S.ShiftStack.shifts d.grammar d.table d.cap 1 c.args.stack.now
