use Rattle.std.proofs.Common.{◌≡◌, drop, map}
use Rattle.lrpar_grammar_bison_rules.specs.Rules.{alternative_of}
use Rattle.lrpar_grammar_bison_parts.specs.Files.{repeated_prec}
use Rattle.lrpar_grammar_bison_parts.proofs.grammar.repeated_prec.Given as goal

-- there is none in the alternatives so far
abbrev pub invariant-loop-alternative : goal.invariant-loop-alternative
invariant-loop-alternative l = repeated_prec (map alternative_of l.alternatives) ≡ repeated_prec (map alternative_of (drop l.alternative-index l.alternatives))
