use Rattle.std.proofs.Common.{◌≡◌, ◌≤◌, ◌+◌, map, drop, length}
use Rattle.lrpar_grammar_bison_rules.specs.Rules.{item_of}
use Rattle.lrpar_grammar_bison_parts.specs.Midrules.{actions_in}
use Rattle.lrpar_grammar_bison_parts.proofs.MidruleLemmas.{actions_after, any_action}
use Rattle.lrpar_grammar_bison_parts.proofs.midrules.action_count.Given as goal

-- the number of actions so far, and that of those that are left
abbrev pub invariant-loop-item : goal.invariant-loop-item
invariant-loop-item l = record {
  counted : l.count + length (actions_after (any_action l.is_open) (map item_of (drop l.item-index l.items))) ≡ length (actions_in (map item_of l.items));
  within : l.count ≤ l.item-index;
}
