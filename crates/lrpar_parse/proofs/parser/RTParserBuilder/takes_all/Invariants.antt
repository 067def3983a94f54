use Rattle.std.proofs.Common.{◌<◌, ℕ}
use Rattle.lrpar_grammar.specs.Grammar.{rule_of, symbols_of}
use Rattle.lrpar_parse.proofs.parser.RTParserBuilder.takes_all.Given as goal

-- the productions so far are taken
abbrev pub invariant-loop-number : goal.invariant-loop-number
invariant-loop-number g l =
    let grammar = l.self.checked.grammar in
    (p : ℕ) → p < l.number → g.A.Actions.taken l.actions p (rule_of grammar p) (symbols_of grammar p)
