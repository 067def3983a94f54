use Rattle.std.proofs.Common.{◌≡◌, length, map}
use Rattle.lrpar_grammar.specs.SameProds.{AreFirstFrom, AreNextFrom}
use Rattle.lrpar_grammar.proofs.grammar.matching.link_equals.Given as goal

-- the productions from `prod` on are in the map, and have their next ones
abbrev pub invariant-loop-prod : goal.invariant-loop-prod
invariant-loop-prod l = record {
  first : AreFirstFrom (map (λ x. x.items) l.prods) l.prod l.first;
  len : length l.next.items ≡ length l.prods;
  next : AreNextFrom (map (λ x. x.items) l.prods) l.prod l.next.items;
}
