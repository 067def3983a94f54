use Rattle.std.proofs.Common.{map}
use Rattle.lrpar_table_rows.specs.PlainItems.{item_of}
use Rattle.lrpar_table_rows.specs.Runs.{items_of_rows, run_items, set_of_rows}
use Rattle.lrpar_table_rows.proofs.ItemLemmas.{HaveSame-map}
use Rattle.lrpar_table_rows.proofs.RunLemmas.{cores_of_same, made_same}
use Rattle.lrpar_table_rows.proofs.items.ItemSet.from_rows.Goals as goal

pub from_parts-requires-clause-cores : goal.from_parts-requires-clause-cores
from_parts-requires-clause-cores g c =
    cores_of_same (run_items c.in_ok-cores.cores c.in_ok-runs.runs.items) (items_of_rows c.args.rows.now) c.in_ok-cores.cores c.in_ok-runs.ensures.same
    c.in_ok-cores.ensures

pub returns : goal.returns
returns g c =
    let index = g.StorageT.StorageIndex.index in
    let runs = run_items c.in_ok-cores.cores c.in_ok-runs.runs.items in
    record {
      same = made_same c.from_parts.result (map (item_of index) runs) (set_of_rows index c.args.rows.now) c.from_parts.ensures
          (HaveSame-map (item_of index) runs (items_of_rows c.args.rows.now) c.in_ok-runs.ensures.same);
    }
