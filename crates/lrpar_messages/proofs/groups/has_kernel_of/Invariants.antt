use Rattle.std.proofs.Common.{◌≡◌, ◌<◌, ℕ, get_or, map}
use Rattle.lrpar_table_rows.specs.Graph.{HasCore}
use Rattle.lrpar_table_rows.specs.PlainItems.{core_of}
use Rattle.lrpar_messages.proofs.groups.has_kernel_of.Given as goal

-- each core so far is one of the other state
abbrev pub invariant-loop-core : goal.invariant-loop-core
invariant-loop-core g l =
    let index = g.StorageT.StorageIndex.index in
    (j p k : ℕ) → j < l.core-index → get_or (map (core_of index) l.core-items) j (p, k) ≡ (p, k) → HasCore l.sgraph (index l.other.0) p k
