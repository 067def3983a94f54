use Rattle.std.proofs.Common.{map}
use Rattle.lrpar_table_rows.proofs.SearchLemmas.{IsSearched}
use Rattle.lrpar_table_rows.proofs.entries.searched.Given as goal

-- the keys outside the part that is left are less or greater
abbrev pub invariant-loop-size : goal.invariant-loop-size
invariant-loop-size g l = IsSearched (map g.K.Key.number l.keys) l.sought l.base l.size

-- the part halves
abbrev pub decreases-loop-size : goal.decreases-loop-size
decreases-loop-size g l = l.size
