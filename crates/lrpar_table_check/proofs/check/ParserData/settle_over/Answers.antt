use Rattle.lrpar_table_stacks.proofs.OverSettleLemmas.{short_of_memory_over, settled_over}
use Rattle.lrpar_table_stacks.proofs.SettleLemmas.{on_err_always}
use Rattle.lrpar_table_check.proofs.check.ParserData.settle_over.Goals as goal

pub returns-clause-settled : goal.returns-clause-settled
returns-clause-settled g c =
    let d = c.args.self.now in
    settled_over d.grammar d.table (g.StorageT.StorageIndex.index c.args.t.0) d.cap c.args.stack.now _ c.settle_on.new.stack
    c.in_ok-settle_on.ensures.settled

pub returns-in_err-settle_on-clause-short_of_memory : goal.returns-in_err-settle_on-clause-short_of_memory
returns-in_err-settle_on-clause-short_of_memory g c =
    let d = c.args.self.now in
    on_err_always c.from_residual.result _
    (short_of_memory_over d.grammar d.table (g.StorageT.StorageIndex.index c.args.t.0) c.args.stack.now c.settle_on.new.stack c.in_err-settle_on.ensures.short_of_memory)
