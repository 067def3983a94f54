use Rattle.std.proofs.Common.{◌<◌, ℕ}
use Rattle.lrpar_grammar.specs.Grammar.{rule_of, symbols_of}
use Rattle.lrpar_typed.specs.Rows.{IsRow}
use Rattle.lrpar_typed.proofs.rows.have_all.Given as goal

-- the productions so far are rows
abbrev pub invariant-loop-number : goal.invariant-loop-number
invariant-loop-number g l = (p : ℕ) → p < l.number → IsRow l.rows p (rule_of l.grm p) (symbols_of l.grm p)
