use Rattle.std.proofs.Common.{ap}
use Rattle.lrpar_table_rows.specs.PlainRows.{plain_action}
use Rattle.lrpar_table_rows.proofs.TestLemmas.{accepted}
use Rattle.lrpar_table_check.proofs.chains.is_reduction.Goals as goal

pub returns-in-Reduce : goal.returns-in-Reduce
returns-in-Reduce g c =
    let index = g.StorageT.StorageIndex.index in
    accepted (_, ap (plain_action index) c.in-Reduce.is)
