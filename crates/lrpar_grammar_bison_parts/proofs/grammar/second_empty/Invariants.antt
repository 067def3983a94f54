use Rattle.std.proofs.Common.{◌≡◌, drop, map}
use Rattle.lrpar_grammar_bison_rules.specs.Rules.{item_of}
use Rattle.lrpar_grammar_bison_parts.specs.Files.{is_empty_sign, second_after, second_empty}
use Rattle.lrpar_grammar_bison_parts.proofs.grammar.second_empty.Given as goal

-- what is left has the second one
abbrev pub invariant-loop-item : goal.invariant-loop-item
invariant-loop-item l = second_empty (map item_of l.items) ≡ second_after is_empty_sign l.has_empty (map item_of (drop l.item-index l.items))
