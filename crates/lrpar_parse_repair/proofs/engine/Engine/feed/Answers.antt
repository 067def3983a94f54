use Rattle.std.proofs.lemmas.Result.{IfOk-weaker}
use Rattle.lrpar_parse_repair.proofs.EngineLemmas.{fed_moves, on_ok, stack_token_fed}
use Rattle.lrpar_parse_repair.proofs.engine.Engine.feed.Goals as goal

pub feed_on-requires-clause-suits : goal.feed_on-requires-clause-suits
feed_on-requires-clause-suits g c = c.requires.suits _

pub returns-clause-fed : goal.returns-clause-fed
returns-clause-fed g c =
    let d = c.args.self.now.checked.now in
    let kind = g.S.StateStack in
    IfOk-weaker c.feed_on.result _ _
    (λ fed h. stack_token_fed kind.states kind.reduces g.S.ShiftStack.shifts d.grammar d.table d.cap (g.StorageT.StorageIndex.index c.args.token.0) c.args.stack.now fed c.feed_on.new.stack h)
    c.feed_on.ensures.fed

pub returns-clause-moved : goal.returns-clause-moved
returns-clause-moved g c =
    let d = c.args.self.now.checked.now in
    let kind = g.S.StateStack in
    on_ok c.feed_on.result
    (λ fed h. fed_moves kind.states kind.reduces g.S.ShiftStack.shifts d.grammar d.table d.cap (g.StorageT.StorageIndex.index c.args.token.0) c.args.stack.now fed c.feed_on.new.stack h)
    c.feed_on.ensures.fed
