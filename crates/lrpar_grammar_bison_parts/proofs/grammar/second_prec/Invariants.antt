use Rattle.std.proofs.Common.{◌≡◌, drop, map}
use Rattle.lrpar_grammar_bison_rules.specs.Rules.{item_of}
use Rattle.lrpar_grammar_bison_parts.specs.Files.{second_after, second_prec}
use Rattle.lrpar_grammar_bison_parts.specs.Precedences.{is_prec}
use Rattle.lrpar_grammar_bison_parts.proofs.grammar.second_prec.Given as goal

-- what is left has the second one
abbrev pub invariant-loop-item : goal.invariant-loop-item
invariant-loop-item l = second_prec (map item_of l.items) ≡ second_after is_prec l.has_prec (map item_of (drop l.item-index l.items))
