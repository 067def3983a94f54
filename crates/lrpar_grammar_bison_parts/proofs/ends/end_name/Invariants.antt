use Rattle.std.proofs.Common.{◌≡◌, drop, map}
use Rattle.lrpar_grammar_bison_rules.specs.Rules.{number_of}
use Rattle.lrpar_grammar_bison_parts.specs.Ends.{end_name}
use Rattle.lrpar_grammar_bison_parts.proofs.ends.end_name.Given as goal

-- no token so far has the number 0
abbrev pub invariant-loop-entry : goal.invariant-loop-entry
invariant-loop-entry l = end_name (map number_of l.numbers) ≡ end_name (map number_of (drop l.entry-index l.numbers))
