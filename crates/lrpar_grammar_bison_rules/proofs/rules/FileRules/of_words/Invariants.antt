use Rattle.std.proofs.Common.{◌≡◌, drop, map}
use Rattle.lrpar_grammar_bison.specs.Words.{placed}
use Rattle.lrpar_grammar_bison_rules.specs.Rules.{read_on, rules_in, rules_read}
use Rattle.lrpar_grammar_bison_rules.proofs.rules.FileRules.of_words.Given as goal

-- what is read of all words is what is read of those that are left, after those that were read
abbrev pub invariant-loop-i : goal.invariant-loop-i
invariant-loop-i l = rules_read (map placed l.words) ≡ read_on l.expected (rules_in l.rules) (drop l.i (map placed l.words))
