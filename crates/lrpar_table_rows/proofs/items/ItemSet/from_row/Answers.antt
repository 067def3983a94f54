use Rattle.std.proofs.Common.{map}
use Rattle.lrpar_table_rows.specs.PlainItems.{item_of, row_of}
use Rattle.lrpar_table_rows.specs.Runs.{run_items}
use Rattle.lrpar_table_rows.proofs.ItemLemmas.{HaveSame-map, exact_index, items_compare_exactly}
use Rattle.lrpar_table_rows.proofs.RunLemmas.{cores_of_same, made_same, same_trans}
use Rattle.lrpar_table_rows.proofs.items.ItemSet.from_row.Goals as goal

pub from_vec-items-requires : goal.from_vec-items-requires
from_vec-items-requires g c =
    let exact =
    exact_index g.StorageT.StorageIndex.index g.StorageT.StorageIndex.at_index g.met.StorageT.StorageIndex.at_index_law in
    record { exact = items_compare_exactly g.StorageT.StorageIndex.index exact g.StorageT.Ord.cmp g.met.StorageT.StorageIndex.cmp_law }

pub runs_of-requires : goal.runs_of-requires
runs_of-requires g c = rw (c.as_slice-2.ensures.all, ← c.as_slice.ensures.all) c.in_ok-cores.ensures

pub from_parts-requires-clause-cores : goal.from_parts-requires-clause-cores
from_parts-requires-clause-cores g c =
    cores_of_same (run_items c.in_ok-cores.cores c.in_ok-runs.runs.items) c.as_slice-2.result.now c.in_ok-cores.cores c.in_ok-runs.ensures.same
    (rw (c.as_slice-2.ensures.all, ← c.as_slice.ensures.all) c.in_ok-cores.ensures)

pub returns : goal.returns
returns g c =
    let index = g.StorageT.StorageIndex.index in
    let runs = run_items c.in_ok-cores.cores c.in_ok-runs.runs.items in
    let same =
    same_trans runs c.from_vec-items.result c.args.row.items (rw c.as_slice-2.ensures.all at c.in_ok-runs.ensures.same) c.from_vec-items.ensures.same in
    record {
      same = made_same c.from_parts.result (map (item_of index) runs) (row_of index c.args.row) c.from_parts.ensures
          (HaveSame-map (item_of index) runs c.args.row.items same);
    }
