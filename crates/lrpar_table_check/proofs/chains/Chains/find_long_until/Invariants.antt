use Rattle.std.proofs.Common.{◌<◌, ◌+◌, ◌∷◌, ℕ, slice_index_or}
use Rattle.std.specs.Option.{option_to_list, unwrap_or}
use Rattle.lrpar_table_stacks.specs.Chain.{HasReductions}
use Rattle.lrpar_table_rows.specs.PlainRows.{plain_goto}
use Rattle.lrpar_table_rows.specs.Table.{TableAction, actions_at}
use Rattle.lrpar_table_check.proofs.chains.Chains.find_long_until.Given as goal

-- the chain isn't too long at the tokens of the entries so far
abbrev pub invariant-loop-place : goal.invariant-loop-place
invariant-loop-place g l =
    let index = g.StorageT.StorageIndex.index in
    let table = l.self.stable.now in
    let es = actions_at table (index (unwrap_or l.above l.s).0) in
    (k : ℕ) (d : ℕ × TableAction) → k < l.place → ¬ (HasReductions l.self.grm.now table (slice_index_or es k d).0 (index l.s.0 ∷ option_to_list (plain_goto index l.above)) (l.self.cap + 1))
