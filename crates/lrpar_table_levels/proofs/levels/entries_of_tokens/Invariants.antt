use Rattle.std.proofs.Common.{◌≡◌, map}
use Rattle.std.specs.List.{flat_map, range_with_len}
use Rattle.lrpar_table_levels.specs.Levels.{entries_at, level_of}
use Rattle.lrpar_table_levels.proofs.levels.entries_of_tokens.Given as goal

-- the entries of the levels so far
abbrev pub invariant-loop-number : goal.invariant-loop-number
invariant-loop-number g l =
    l.entries.items ≡ flat_map (entries_at (map (level_of g.StorageT.StorageIndex.index) l.levels)) (range_with_len 0 l.number)
