use Rattle.lrpar_table_rows.specs.Table.{gotos_at}
use Rattle.lrpar_table_check.proofs.ChainEntryLemmas.{IsFirstOf}
use Rattle.lrpar_table_check.proofs.chains.Chains.find_long_at.Given as goal

-- `end` is the first token at which a chain so far is too long, or the number of tokens
abbrev pub invariant-loop-place : goal.invariant-loop-place
invariant-loop-place g l =
    let table = l.self.stable.now in
    let s = g.StorageT.StorageIndex.index l.s.0 in
    IsFirstOf l.self.grm.now table l.self.cap s (gotos_at table s) table.tokens l.place l.end
