use Rattle.lrpar_table_pops.proofs.KeptLemmas.{AreOtherTokens}
use Rattle.lrpar_table_pops.proofs.saturate.is_kept_at.Given as goal

-- no token before the place has the number
abbrev pub invariant-loop-place : goal.invariant-loop-place
invariant-loop-place g l = AreOtherTokens g.StorageT.StorageIndex.index l.tokens l.place l.number
