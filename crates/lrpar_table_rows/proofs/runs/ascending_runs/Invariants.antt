use Rattle.std.proofs.Common.{All, map}
use Rattle.std.specs.List.{AllZip}
use Rattle.std.specs.List.Sorted.{IsStrictlySortedBy}
use Rattle.std.specs.Ordering.{nat_cmp}
use Rattle.lrpar_table_rows.specs.Ascending.{HaveSame}
use Rattle.lrpar_table_rows.specs.Runs.{tokens_of}
use Rattle.lrpar_table_rows.proofs.runs.ascending_runs.Given as goal

-- the runs so far, in order
abbrev pub invariant-loop-run : goal.invariant-loop-run
invariant-loop-run g l =
    AllZip HaveSame l.made.items (tokens_of l.yielded)
    × All (λ run. IsStrictlySortedBy nat_cmp (map (λ token. g.StorageT.StorageIndex.index token.0) run)) l.made.items
