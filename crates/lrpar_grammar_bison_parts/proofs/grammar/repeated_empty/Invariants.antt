use Rattle.std.proofs.Common.{◌≡◌, drop, map}
use Rattle.lrpar_grammar_bison_rules.specs.Rules.{alternative_of}
use Rattle.lrpar_grammar_bison_parts.specs.Files.{repeated_empty}
use Rattle.lrpar_grammar_bison_parts.proofs.grammar.repeated_empty.Given as goal

-- there is none in the alternatives so far
abbrev pub invariant-loop-alternative : goal.invariant-loop-alternative
invariant-loop-alternative l = repeated_empty (map alternative_of l.alternatives) ≡ repeated_empty (map alternative_of (drop l.alternative-index l.alternatives))
