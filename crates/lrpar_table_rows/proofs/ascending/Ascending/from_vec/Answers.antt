use Rattle.lrpar_table_rows.proofs.AscendingLemmas.{row_from_sort, same_from_sort}
use Rattle.lrpar_table_rows.proofs.ascending.Ascending.from_vec.Goals as goal

pub invariant_of-result : goal.invariant_of-result
invariant_of-result g c =
    row_from_sort g.met.T.Ord.total g.met.T.Ord.matches_eq c.requires.exact c.sort_unstable.new.self.items c.dedup.new.self.items
    c.sort_unstable.ensures.sorted c.dedup.ensures.filtered

pub returns-clause-same : goal.returns-clause-same
returns-clause-same g c =
    same_from_sort g.met.T.Eq.laws g.met.T.Ord.matches_eq c.requires.exact c.args.elements.items c.sort_unstable.new.self.items
    c.dedup.new.self.items c.sort_unstable.ensures.permutation c.dedup.ensures.filtered

pub returns-clause-sorted : goal.returns-clause-sorted
returns-clause-sorted g c =
    (row_from_sort g.met.T.Ord.total g.met.T.Ord.matches_eq c.requires.exact c.sort_unstable.new.self.items c.dedup.new.self.items
    c.sort_unstable.ensures.sorted c.dedup.ensures.filtered).sorted
