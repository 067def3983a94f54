use Rattle.std.proofs.Common.{◌≡◌, ◌<◌, map}
use Rattle.std.specs.Bool.{OnFalse, OnTrue}
use Rattle.lrpar_table_first.specs.FirstRows.{total_missing}
use Rattle.lrpar_table_items.specs.Cores.{core_set}
use Rattle.lrpar_table_merge.specs.Compatible.{lookahead_rows}
use Rattle.lrpar_table_merge.proofs.UniteLemmas.{AreUnitedBelow}
use Rattle.lrpar_table_merge.proofs.unite.unite.Given as goal

-- the cores so far are united; either fewer tokens are missing than before, or all is as before
abbrev pub invariant-loop-place : goal.invariant-loop-place
invariant-loop-place g l =
    let index = g.StorageT.StorageIndex.index in
    let before = map (core_set index) l.initial.kernel in
    let after = map (core_set index) l.kernel in
    AreUnitedBelow before (map (core_set index) l.other) after l.place
    × OnTrue l.grown (total_missing (lookahead_rows after) < total_missing (lookahead_rows before))
    × OnFalse l.grown (after ≡ before)
