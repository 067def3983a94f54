use Rattle.std.proofs.Common.{◌≡◌, filter, map}
use Rattle.std.specs.List.{range_with_len}
use Rattle.lrpar_grammar.specs.Tokens.{has}
use Rattle.lrpar_table_items.proofs.items.lookaheads.Given as goal

-- the lookaheads so far
abbrev pub invariant-loop-token : goal.invariant-loop-token
invariant-loop-token g l =
    map (λ token. g.StorageT.StorageIndex.index token.0) l.tokens.items ≡ filter (has l.core.tokens) (range_with_len 0 l.token)
