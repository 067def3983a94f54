use Rattle.std.proofs.Common.{◌≡◌, List, drop, map}
use Rattle.lrpar_grammar_bison_rules.specs.Rules.{number_of}
use Rattle.lrpar_grammar_bison_parts.specs.Numbers.{MapsNumbers, NumberedToken, fault_after, number_fault}
use Rattle.lrpar_grammar_bison_parts.proofs.numbers.check_each.Given as goal

-- the map has the numbers of the tokens so far, and what is left has the fault
abbrev pub invariant-loop-entry : goal.invariant-loop-entry
invariant-loop-entry l =
    (tokens : List NumberedToken) × MapsNumbers l.found tokens × (number_fault (map number_of l.numbers) ≡ fault_after tokens (map number_of (drop l.entry-index l.numbers)))
