use Rattle.std.proofs.Common.{◌≡◌, ◌<◌, ℕ}
use Rattle.lrpar_grammar.specs.Grammar.{prods_len}
use Rattle.lrpar_table_rows.specs.Table.{ReduceBy, action_of}
use Rattle.lrpar_table_conditions.proofs.checkable.Checkable.reduces_are_in_range.Given as goal

-- the reductions of the states so far are by productions
abbrev pub invariant-loop-s : goal.invariant-loop-s
invariant-loop-s g l =
    (k t p : ℕ) → k < l.s → action_of l.self.stable.now k t ≡ ReduceBy p → p < prods_len l.self.grm.now
