use Rattle.std.proofs.Common.{◌≤◌, None, map, slice_index_or}
use Rattle.lrpar_table_items.specs.Next.{kernel_at, kernel_rows}
use Rattle.lrpar_table_items.specs.States.{step_entry}
use Rattle.lrpar_table_merge.specs.MergedSteps.{AreGivenSteps}
use Rattle.lrpar_table_merge.proofs.merged_states.steps.Given as goal

-- the rows are those of the symbols so far
abbrev pub invariant-loop-number : goal.invariant-loop-number
invariant-loop-number g l =
    let index = g.StorageT.StorageIndex.index in
    (l.number ≤ l.len)
    × AreGivenSteps (kernel_rows index l.kernels) (kernel_at (kernel_rows index l.reached)) (λ k. slice_index_or l.row k None)
    (map (step_entry g.SymbolT.Numbered.number index) l.rows.items) l.number
