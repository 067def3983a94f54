use Rattle.std.proofs.Common.{◌≡◌, map, take}
use Rattle.lrpar_table_merge.proofs.SameCoreLemmas.{lr0_of}
use Rattle.lrpar_table_merge.proofs.compatible.have_same_cores.Given as goal

-- the cores so far are the same
abbrev pub invariant-loop-place : goal.invariant-loop-place
invariant-loop-place g l =
    let index = g.StorageT.StorageIndex.index in map (lr0_of index) (take l.place l.kernel) ≡ map (lr0_of index) (take l.place l.other)
