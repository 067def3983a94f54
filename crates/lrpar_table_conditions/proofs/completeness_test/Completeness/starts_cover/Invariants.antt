use Rattle.std.proofs.Common.{◌<◌, ℕ, IsTrue, get_or}
use Rattle.lrpar_table_first.specs.FirstRows.{row_at, rows_of}
use Rattle.lrpar_grammar.specs.Tokens.{has}
use Rattle.lrpar_table_conditions.proofs.completeness_test.Completeness.starts_cover.Given as goal

-- the items with dot 0 of the productions so far have each of the tokens as lookahead
abbrev pub invariant-loop-pidx : goal.invariant-loop-pidx
invariant-loop-pidx g l =
    (k : ℕ) (d : _) → k < l.pidx-index → (b : ℕ) → IsTrue (has l.tokens b)
    → IsTrue (has (row_at (rows_of l.starts) (g.StorageT.StorageIndex.index (get_or l.pidx-items k d).0)) b)
