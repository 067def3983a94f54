use Rattle.std.proofs.Common.{◌≡◌, map, take}
use Rattle.lrpar_table_levels.specs.Levels.{level_of, named_of, prod_entries}
use Rattle.lrpar_table_levels.proofs.levels.entries_of_prods.Given as goal

-- the entries of the productions so far
abbrev pub invariant-loop-entry : goal.invariant-loop-entry
invariant-loop-entry g l =
    l.entries.items
    ≡ prod_entries (map (level_of g.StorageT.StorageIndex.index) l.levels) (map (named_of g.StorageT.StorageIndex.index) (take l.entry-index l.named))
