use Rattle.std.proofs.Common.{take}
use Rattle.lrpar_names.specs.Choosing.{AreTokensBelow, token_numbers}
use Rattle.lrpar_names.proofs.choosing.set_of.Given as goal

-- the set has the tokens so far
abbrev pub invariant-tokens : goal.invariant-tokens
invariant-tokens g l = AreTokensBelow l.len (token_numbers g.StorageT.StorageIndex.index (take l.token-index l.tokens)) l.set
