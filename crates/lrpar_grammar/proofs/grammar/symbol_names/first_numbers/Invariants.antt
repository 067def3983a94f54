use Rattle.std.proofs.Common.{◌≤◌, drop, map}
use Rattle.lrpar_grammar.specs.SymbolNames.{AreFirst}
use Rattle.lrpar_grammar.proofs.grammar.symbol_names.first_numbers.Given as goal

-- the numbers of the names from `number` on
abbrev pub invariant-loop-number : goal.invariant-loop-number
invariant-loop-number l = record {
  after : l.from ≤ l.number;
  first : AreFirst l.numbers l.number (drop l.number (map (λ x. x.now) l.names));
}
