use Rattle.std.proofs.Common.{◌≡◌, drop, map}
use Rattle.lrpar_grammar_bison_rules.specs.Rules.{item_of}
use Rattle.lrpar_grammar_bison_parts.specs.Files.{empty_in}
use Rattle.lrpar_grammar_bison_parts.proofs.grammar.empty_in.Given as goal

-- there is none among the parts so far
abbrev pub invariant-loop-item : goal.invariant-loop-item
invariant-loop-item l = empty_in (map item_of l.items) ≡ empty_in (map item_of (drop l.item-index l.items))
