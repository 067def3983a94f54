use Rattle.std.proofs.Common.{map, take}
use Rattle.lrpar_parse_cpctplus.specs.Listing.{AreAvoided}
use Rattle.lrpar_parse_cpctplus.proofs.cpct_plus.avoided_by.Given as goal

-- the list says so of the tokens so far
abbrev pub invariant-loop-token : goal.invariant-loop-token
invariant-loop-token g l = AreAvoided l.avoided.items (take l.token-index (map (λ t. g.StorageT.StorageIndex.index t.0) l.tokens))
