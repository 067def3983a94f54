use Rattle.std.proofs.Common.{◌≡◌, length}
use Rattle.std.specs.List.{All}
use Rattle.lrpar_names.proofs.RowLemmas.{SameBelow}
use Rattle.lrpar_names.proofs.first_tokens.sets_below.Given as goal

-- the sets so far have the tokens below `end` of theirs
abbrev pub invariant-sets : goal.invariant-sets
invariant-sets l = record {
  rules : length l.below.items ≡ l.set-index;
  room : All (λ row. length row ≡ l.end) l.below.items;
  same : SameBelow l.sets l.end l.below.items l.set-index;
}
