use Rattle.std.proofs.Common.{◌<◌, ℕ, get_or}
use Rattle.lrpar_table_rows.specs.Table.{action_of}
use Rattle.lrpar_table_conditions.specs.Itemwise.{EndsBy}
use Rattle.lrpar_table_conditions.proofs.completeness_test.Completeness.ends_each.Given as goal

-- the state ends the production at the lookaheads so far
abbrev pub invariant-loop-token : goal.invariant-loop-token
invariant-loop-token g l =
    let index = g.StorageT.StorageIndex.index in
    (k : ℕ) (d : _) → k < l.token-index → EndsBy l.self.grm.now (index l.pidx.0) (action_of l.self.stable.now (index l.s.0) (index (get_or l.token-items k d).0))
