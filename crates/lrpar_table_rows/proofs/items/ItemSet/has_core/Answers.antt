use Rattle.lrpar_table_rows.specs.Runs.{run_items}
use Rattle.lrpar_table_rows.proofs.ItemLemmas.{exact_index, core_by_numbers}
use Rattle.lrpar_table_rows.proofs.items.ItemSet.has_core.Goals as goal

pub returns : goal.returns
returns g c =
    let exact =
    exact_index g.StorageT.StorageIndex.index g.StorageT.StorageIndex.at_index g.met.StorageT.StorageIndex.at_index_law in
    let same =
    core_by_numbers g.StorageT.StorageIndex.index exact (run_items c.self.inside.cores c.self.inside.runs.items) c.self.inside.cores c.args.prod c.args.dot
    c.self.invariant.exact in
    record { found = rw (← c.self.view_is) (λ h. same.0 (c.contains.ensures.found.0 h), λ h. c.contains.ensures.found.1 (same.1 h)) }
