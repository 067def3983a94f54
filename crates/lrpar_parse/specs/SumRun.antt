-- The run over `a+b` on the table of sums, worked out. Its lexemes are their tokens: 'ID', '+', 'ID'.
use Rattle.std.specs.Prelude.{ℕ, List, [], ◌∷◌, Some}
use Rattle.lrpar_grammar.specs.Sum.{sum_grammar}
use Rattle.lrpar_table_rows.specs.Sum.{sum_table}
use Rattle.lrpar_table_stacks.specs.Run.{Run}

-- the tokens of `a+b`
abbrev pub sum_tokens : List ℕ
sum_tokens = 1 ∷ 0 ∷ 1 ∷ []

-- from the start state the run accepts, and reduces by `T: 'ID'` twice, `E: T` and `E: T '+' E`
abbrev pub SumRunsThrough : Type 0
SumRunsThrough = Run (λ t. t) sum_grammar sum_table sum_tokens (0 ∷ []) 0 [] (Some sum_tokens) (2 ∷ 2 ∷ 1 ∷ 0 ∷ [])
