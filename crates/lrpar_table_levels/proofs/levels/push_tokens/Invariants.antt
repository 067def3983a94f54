use Rattle.std.proofs.Common.{◌≡◌, ◌++◌, map, take}
use Rattle.lrpar_table_levels.proofs.levels.push_tokens.Given as goal

-- the tokens so far are appended
abbrev pub invariant-loop-token : goal.invariant-loop-token
invariant-loop-token g l =
    l.entries.items ≡ l.initial.entries.items ++ map (λ t. (g.StorageT.StorageIndex.index t.0, l.precedence)) (take l.token-index l.tokens)
