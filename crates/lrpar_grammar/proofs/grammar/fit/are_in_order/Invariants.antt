use Rattle.std.proofs.Common.{◌≡◌, ◌<◌, ◌≤◌, ◌-◌, get_or}
use Rattle.std.specs.List.{AllAdjacentBelow}
use Rattle.lrpar_grammar.proofs.grammar.fit.are_in_order.Given as goal

-- the parts so far are in order, and the last of them ends at `end`
abbrev pub invariant-loop-span : goal.invariant-loop-span
invariant-loop-span l = record {
  order : AllAdjacentBelow (λ a b. a.end ≤ b.start) l.spans l.span-index;
  first : l.span-index ≡ 0 → l.end ≡ 0;
  last : (d : _) → 0 < l.span-index → (get_or l.spans (l.span-index - 1) d).end ≡ l.end;
}
