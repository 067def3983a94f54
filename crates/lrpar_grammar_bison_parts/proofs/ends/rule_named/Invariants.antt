use Rattle.std.proofs.Common.{◌≡◌, drop, map}
use Rattle.lrpar_grammar_bison.specs.Words.{placed}
use Rattle.lrpar_grammar_bison_parts.specs.Ends.{rule_named}
use Rattle.lrpar_grammar_bison_parts.proofs.ends.rule_named.Given as goal

-- no rule so far has the name
abbrev pub invariant-loop-word : goal.invariant-loop-word
invariant-loop-word l = rule_named l.name (map placed l.words) ≡ rule_named l.name (map placed (drop l.word-index l.words))
