-- The run over `a+b`, step by step.
use Rattle.std.proofs.Common.{◌≢◌, ℕ, [], ◌∷◌, arith, refl}
use Rattle.lrpar_table_stacks.specs.Reduction.{Feeds, Reduces}
use Rattle.lrpar_grammar.specs.Sum.{sum_grammar}
use Rattle.lrpar_table_rows.specs.Sum.{sum_table}
use Rattle.lrpar_table_rows.specs.Table.{Accepts, ReduceBy, ShiftTo}
use Rattle.lrpar_table_stacks.specs.Run.{Far, Accepted, accepts, comes_through, goes_on}
use Rattle.lrpar_table_rows.specs.Table.{action_of, goto_of}
use Rattle.lrpar_parse.specs.SumRun.{SumRunsThrough, sum_tokens}

-- a shift and an accept are no reductions
no_shift : (next p : ℕ) → ShiftTo next ≢ ReduceBy p
unfolding action_of goto_of
no_shift next p e = cc

no_accept : (p : ℕ) → Accepts ≢ ReduceBy p
unfolding action_of goto_of
no_accept p e = cc

-- `T: 'ID'` before '+'
first : Reduces sum_grammar sum_table 0 (0 ∷ 3 ∷ []) 2 (0 ∷ 2 ∷ [])
unfolding action_of goto_of
first = record { action = refl; known = omega arith; deep = omega arith; state = 2; goto = refl; pushed = refl }

-- `T: 'ID'` at the end
second : Reduces sum_grammar sum_table 2 (0 ∷ 2 ∷ 4 ∷ 3 ∷ []) 2 (0 ∷ 2 ∷ 4 ∷ 2 ∷ [])
unfolding action_of goto_of
second = record { action = refl; known = omega arith; deep = omega arith; state = 2; goto = refl; pushed = refl }

-- `E: T`
third : Reduces sum_grammar sum_table 2 (0 ∷ 2 ∷ 4 ∷ 2 ∷ []) 1 (0 ∷ 2 ∷ 4 ∷ 5 ∷ [])
unfolding action_of goto_of
third = record { action = refl; known = omega arith; deep = omega arith; state = 5; goto = refl; pushed = refl }

-- `E: T '+' E`
fourth : Reduces sum_grammar sum_table 2 (0 ∷ 2 ∷ 4 ∷ 5 ∷ []) 0 (0 ∷ 1 ∷ [])
unfolding action_of goto_of
fourth = record { action = refl; known = omega arith; deep = omega arith; state = 1; goto = refl; pushed = refl }

-- 'ID', '+' and 'ID' are fed
feeds_a : Feeds sum_grammar sum_table 1 (0 ∷ []) [] (0 ∷ 3 ∷ [])
unfolding action_of goto_of
feeds_a = record { settled = 0 ∷ []; settles = (refl, λ p e. no_shift 3 p e); next = 3; shifts = refl; pushed = refl }

feeds_plus : Feeds sum_grammar sum_table 0 (0 ∷ 3 ∷ []) (2 ∷ []) (0 ∷ 2 ∷ 4 ∷ [])
unfolding action_of goto_of
feeds_plus = record { settled = 0 ∷ 2 ∷ []; settles = (0 ∷ 2 ∷ [], first, (refl, λ p e. no_shift 4 p e)); next = 4; shifts = refl; pushed = refl }

feeds_b : Feeds sum_grammar sum_table 1 (0 ∷ 2 ∷ 4 ∷ []) [] (0 ∷ 2 ∷ 4 ∷ 3 ∷ [])
unfolding action_of goto_of
feeds_b = record { settled = 0 ∷ 2 ∷ 4 ∷ []; settles = (refl, λ p e. no_shift 3 p e); next = 3; shifts = refl; pushed = refl }

-- at the end all reductions are made, and the table accepts
at_end : Far (λ t. t) sum_grammar sum_table sum_tokens (0 ∷ 2 ∷ 4 ∷ 3 ∷ []) 3 (2 ∷ 1 ∷ 0 ∷ []) Accepted
unfolding action_of goto_of
at_end =
    accepts (0 ∷ 2 ∷ 4 ∷ 3 ∷ []) 3 (2 ∷ 1 ∷ 0 ∷ []) (0 ∷ 1 ∷ []) refl
    (0 ∷ 2 ∷ 4 ∷ 2 ∷ [], second, (0 ∷ 2 ∷ 4 ∷ 5 ∷ [], third, (0 ∷ 1 ∷ [], fourth, (refl, λ p e. no_accept p e)))) refl

-- so the run accepts
pub sum_runs_through : SumRunsThrough
unfolding action_of goto_of
sum_runs_through =
    comes_through (0 ∷ []) 0 (2 ∷ 2 ∷ 1 ∷ 0 ∷ [])
    (goes_on (0 ∷ []) 0 [] (2 ∷ 2 ∷ 1 ∷ 0 ∷ []) (0 ∷ 3 ∷ []) Accepted (omega arith) feeds_a
    (goes_on (0 ∷ 3 ∷ []) 1 (2 ∷ []) (2 ∷ 1 ∷ 0 ∷ []) (0 ∷ 2 ∷ 4 ∷ []) Accepted (omega arith) feeds_plus
    (goes_on (0 ∷ 2 ∷ 4 ∷ []) 2 [] (2 ∷ 1 ∷ 0 ∷ []) (0 ∷ 2 ∷ 4 ∷ 3 ∷ []) Accepted (omega arith) feeds_b at_end)))
