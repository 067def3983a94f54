use Rattle.lrpar_table_rows.specs.Graph.{core_cmp}
use Rattle.lrpar_table_rows.specs.PlainItems.{core_of}
use Rattle.lrpar_table_rows.proofs.ItemLemmas.{sorted_image, same_core_order}
use Rattle.lrpar_table_rows.proofs.RunLemmas.{items_sorted}
use Rattle.lrpar_table_rows.proofs.items.ItemSet.from_parts.Goals as goal

pub invariant_of-result : goal.invariant_of-result
invariant_of-result g c =
    let index = g.StorageT.StorageIndex.index in
    record {
      paired = c.requires.paired;
      exact = c.requires.cores;
      ascending =
          items_sorted index c.args.cores c.args.runs.items
          (sorted_image _ core_cmp (core_of index) (same_core_order index g.StorageT.Ord.cmp g.met.StorageT.StorageIndex.cmp_law) c.args.cores c.as_slice.ensures.sorted)
          c.requires.sorted;
      kernel = rw c.as_slice.ensures.all at c.in_ok-begun.ensures;
    }
