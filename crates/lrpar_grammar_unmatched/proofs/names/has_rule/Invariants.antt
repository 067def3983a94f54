use Rattle.std.proofs.Common.{◌≢◌, ◌<◌, ℕ}
use Rattle.lrpar_grammar_reader.specs.Grammar.{rule_name}
use Rattle.lrpar_grammar_unmatched.proofs.names.has_rule.Given as goal

-- no rule so far has the name
abbrev pub invariant-loop-number : goal.invariant-loop-number
invariant-loop-number g l = (n : ℕ) → n < l.number → rule_name l.grm n ≢ l.name
