use Rattle.std.proofs.Common.{◌≡◌}
use Rattle.lrpar_grammar.specs.Grammar.{end_token}
use Rattle.lrpar_parse_repair.proofs.EngineLemmas.{settled_moves, stack_accepts}
use Rattle.lrpar_parse_repair.proofs.engine.Engine.try_accept.Goals as goal

pub settle_on-requires-clause-suits : goal.settle_on-requires-clause-suits
settle_on-requires-clause-suits g c = c.requires.suits _

pub returns-clause-accepts : goal.returns-clause-accepts
returns-clause-accepts g c =
    let index = g.StorageT.StorageIndex.index in
    let d = c.args.self.now.checked.now in
    let kind = g.S.StateStack in
    let t = index c.eof_token_idx-end.result.0 in
    let end : t ≡ end_token d.grammar = rw c.grm.ensures at c.eof_token_idx-end.ensures in
    stack_accepts kind.states kind.reduces g.S.ShiftStack.shifts d.grammar d.table d.cap t index c.args.stack.now _ c.settle_on.new.stack _ c.is_accept.result
    c.in_ok-settled.ensures.settled end c.in_ok-settled.ensures.action c.is_accept.ensures

pub returns-clause-moved : goal.returns-clause-moved
returns-clause-moved g c =
    let index = g.StorageT.StorageIndex.index in
    let d = c.args.self.now.checked.now in
    let kind = g.S.StateStack in
    settled_moves kind.states kind.reduces g.S.ShiftStack.shifts d.grammar d.table d.cap (index c.eof_token_idx-end.result.0) c.args.stack.now _ c.settle_on.new.stack
    c.in_ok-settled.ensures.settled
