use Rattle.std.proofs.Common.{◌≡◌, ◌≤◌, ◌+◌, ◌++◌, List, map, drop, length}
use Rattle.lrpar_grammar_words.specs.Words.{placed as text_placed}
use Rattle.lrpar_grammar_bison_rules.specs.Aliases.{FileAlias, MapsAliases}
use Rattle.lrpar_grammar_bison_rules.specs.Rules.{item_of}
use Rattle.lrpar_grammar_bison_parts.specs.Midrules.{filled, symbols_after, symbols_in}
use Rattle.lrpar_grammar_bison_parts.proofs.MidruleLemmas.{actions_after, any_action}
use Rattle.lrpar_grammar_bison_parts.proofs.midrules.filled.Given as goal

-- the symbols so far, and those that are left, are all; and there are rules for the actions that are left
abbrev pub invariant-loop-item : goal.invariant-loop-item
invariant-loop-item l = record {
  filled : (aliases : List FileAlias) → MapsAliases l.aliases aliases
      → map text_placed l.symbols.items ++ filled aliases (map text_placed (drop l.used l.midrules)) (symbols_after (any_action l.is_open) (map item_of (drop l.item-index l.items)))
      ≡ filled aliases (map text_placed l.midrules) (symbols_in (map item_of l.items));
  enough : l.used + length (actions_after (any_action l.is_open) (map item_of (drop l.item-index l.items))) ≤ length l.midrules;
}
