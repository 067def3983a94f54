use Rattle.lrpar_table_rows.specs.Graph.{core_cmp}
use Rattle.lrpar_table_rows.specs.PlainItems.{core_of}
use Rattle.lrpar_table_rows.specs.Runs.{run_items}
use Rattle.lrpar_table_rows.proofs.ItemLemmas.{begun_by_numbers, sorted_image, same_core_order}
use Rattle.lrpar_table_rows.proofs.items.ItemSet.begun.Goals as goal

pub returns-clause-all : goal.returns-clause-all
returns-clause-all g c = λ p k.
    rw (← c.self.view_is, c.as_slice.ensures.all)
    (begun_by_numbers g.StorageT.StorageIndex.index (run_items c.self.inside.cores c.self.inside.runs.items) c.self.inside.cores c.self.inside.begun c.self.invariant.exact c.self.invariant.kernel p k)

pub returns-clause-ascending : goal.returns-clause-ascending
returns-clause-ascending g c =
    let index = g.StorageT.StorageIndex.index in
    rw c.as_slice.ensures.all
    (sorted_image _ core_cmp (core_of index) (same_core_order index g.StorageT.Ord.cmp g.met.StorageT.StorageIndex.cmp_law) c.self.inside.begun
    c.as_slice.ensures.sorted)
