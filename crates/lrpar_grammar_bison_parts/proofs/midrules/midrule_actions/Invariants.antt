use Rattle.std.proofs.Common.{◌≡◌, map, take}
use Rattle.lrpar_grammar_bison.specs.Words.{placed}
use Rattle.lrpar_grammar_bison_rules.specs.Rules.{alternative_of}
use Rattle.lrpar_grammar_bison_parts.specs.Midrules.{actions_of}
use Rattle.lrpar_grammar_bison_parts.proofs.midrules.midrule_actions.Given as goal

-- the actions of the alternatives so far
abbrev pub invariant-loop-alternative : goal.invariant-loop-alternative
invariant-loop-alternative l = map placed l.actions.items ≡ actions_of (map alternative_of (take l.alternative-index l.alternatives))
