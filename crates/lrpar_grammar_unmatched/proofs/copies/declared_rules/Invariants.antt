use Rattle.std.proofs.Common.{◌≡◌, drop, map, take}
use Rattle.lrpar_grammar_reader.specs.Parts.{rule_name_of}
use Rattle.lrpar_grammar_unmatched.proofs.copies.declared_rules.Given as goal

-- the rules so far, without the added one
abbrev pub invariant-loop-number : goal.invariant-loop-number
invariant-loop-number g l = map rule_name_of l.rules.items ≡ drop 1 (take l.number l.grm.rules)
