use Rattle.std.proofs.Common.{◌≡◌, ◌++◌, map, drop}
use Rattle.lrpar_grammar_bison.specs.Words.{placed}
use Rattle.lrpar_grammar_bison_rules.specs.Rules.{item_of}
use Rattle.lrpar_grammar_bison_parts.specs.Midrules.{actions_in}
use Rattle.lrpar_grammar_bison_parts.proofs.MidruleLemmas.{actions_after, last_action}
use Rattle.lrpar_grammar_bison_parts.proofs.midrules.push_actions.Given as goal

-- the actions so far, and those that are left, are all
abbrev pub invariant-loop-item : goal.invariant-loop-item
invariant-loop-item l =
    map placed l.actions.items ++ actions_after (last_action l.last) (map item_of (drop l.item-index l.items))
    ≡ map placed l.initial.actions.items ++ actions_in (map item_of l.items)
