use Rattle.std.proofs.Common.{take}
use Rattle.lrpar_grammar_typed.specs.PartsOf.{AreRulesOf}
use Rattle.lrpar_grammar_typed.proofs.typed.rule_parts.Given as goal

-- the rules so far
abbrev pub invariant-loop-rule : goal.invariant-loop-rule
invariant-loop-rule l = AreRulesOf (take l.rule-index l.rules) l.parts.items
