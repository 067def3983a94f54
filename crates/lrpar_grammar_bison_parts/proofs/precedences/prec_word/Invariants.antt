use Rattle.std.proofs.Common.{◌≡◌, drop, map}
use Rattle.lrpar_grammar_bison_rules.specs.Rules.{item_of}
use Rattle.lrpar_grammar_bison_parts.specs.Precedences.{prec_in}
use Rattle.lrpar_grammar_bison_parts.proofs.precedences.prec_word.Given as goal

-- the first `%prec` is among the parts that are left
abbrev pub invariant-loop-item : goal.invariant-loop-item
invariant-loop-item l = prec_in (map item_of l.items) ≡ prec_in (map item_of (drop l.item-index l.items))
