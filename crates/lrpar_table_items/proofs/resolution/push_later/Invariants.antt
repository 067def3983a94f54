use Rattle.std.proofs.Common.{◌≡◌, ◌++◌, ◌∷◌, map, take}
use Rattle.lrpar_table_rows.specs.PlainConflicts.{reduce_reduce_of}
use Rattle.lrpar_table_items.specs.Resolution.{reduce_conflicts_at}
use Rattle.lrpar_table_items.proofs.resolution.push_later.Given as goal

-- the conflicts of the later productions so far are appended
abbrev pub invariant-loop-prod : goal.invariant-loop-prod
invariant-loop-prod g l =
    let index = g.StorageT.StorageIndex.index in
    map (reduce_reduce_of index) l.rr.items
    ≡ map (reduce_reduce_of index) l.initial.rr.items
    ++ reduce_conflicts_at (index l.state.0) (index l.tidx.0) (index l.least.0 ∷ map (λ p. index p.0) (take l.prod-index l.later))
