use Rattle.std.proofs.Common.{ap, map}
use Rattle.lrpar_table_rows.specs.PlainItems.{item_of}
use Rattle.lrpar_table_rows.proofs.RunLemmas.{left_first}
use Rattle.lrpar_table_rows.proofs.item_iter.Items.new.Goals as goal

pub returns : goal.returns
returns g c = ap (map (item_of g.StorageT.StorageIndex.index)) (left_first c.args.cores.now c.args.runs.now)
