use Rattle.std.proofs.Common.{◌<◌, ◌-◌, ◌*◌, ℕ, get_or}
use Rattle.std.specs.List.{Contains}
use Rattle.lrpar_table_rows.specs.Table.{states_len}
use Rattle.lrpar_conflict_examples.specs.Pairs.{AreFound, IsFollowed, pairs_in}
use Rattle.lrpar_conflict_examples.proofs.paired.Pairs.new.Given as goal

-- the pairs before the place are followed
abbrev pub invariant-places : goal.invariant-places
invariant-places g l =
    record {
      found : AreFound l.one l.other (pairs_in l.pairs);
      start : Contains l.pairs.found.items (l.one.start, l.other.start);
      followed : (k : ℕ) → k < l.place → IsFollowed l.one l.other l.pairs.found.items (get_or l.pairs.found.items k (0, 0));
    }

-- each pair is followed once, and there are at most as many as states of one table times states of the other
abbrev pub decreases-places : goal.decreases-places
decreases-places g l = states_len l.one * states_len l.other - l.place
