use Rattle.std.proofs.lemmas.Result.{IfOk-weaker, on_err_weaker}
use Rattle.lrpar_table_stacks.proofs.OverSettleLemmas.{fed_over, feed_short_of_memory_over}
use Rattle.lrpar_table_check.proofs.check.ParserData.feed_over.Goals as goal

pub returns-clause-fed : goal.returns-clause-fed
returns-clause-fed g c =
    let d = c.args.self.now in
    IfOk-weaker c.feed_on.result _ _
    (λ shifted h. fed_over d.grammar d.table (g.StorageT.StorageIndex.index c.args.t.0) d.cap c.args.stack.now shifted c.feed_on.new.stack h)
    c.feed_on.ensures.fed

pub returns-clause-short_of_memory : goal.returns-clause-short_of_memory
returns-clause-short_of_memory g c =
    let d = c.args.self.now in
    on_err_weaker c.feed_on.result
    (feed_short_of_memory_over d.grammar d.table (g.StorageT.StorageIndex.index c.args.t.0) d.cap c.args.stack.now c.feed_on.new.stack)
    c.feed_on.ensures.short_of_memory
