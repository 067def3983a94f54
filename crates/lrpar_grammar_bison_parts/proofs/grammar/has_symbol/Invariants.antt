use Rattle.std.proofs.Common.{◌≡◌, drop, map}
use Rattle.lrpar_grammar_bison_rules.specs.Rules.{item_of}
use Rattle.lrpar_grammar_bison_parts.specs.Files.{has_symbol}
use Rattle.lrpar_grammar_bison_parts.proofs.grammar.has_symbol.Given as goal

-- there is none among the parts so far
abbrev pub invariant-loop-item : goal.invariant-loop-item
invariant-loop-item l = has_symbol (map item_of l.items) ≡ has_symbol (map item_of (drop l.item-index l.items))
