use Rattle.lrpar_table_rows.proofs.AscendingLemmas.{place_in_row}
use Rattle.lrpar_table_rows.proofs.ascending.Ascending.position.Goals as goal

pub returns : goal.returns
returns g c =
    let found =
    place_in_row g.met.T.Ord.total c.deref.result.now c.args.element.now c.binary_search.result (rw c.deref.ensures.value c.self.invariant)
    c.binary_search.ensures.bound c.binary_search.ensures.position in
    rw (c.ok.ensures.value, ← c.self.view_is, ← c.deref.ensures.value) found
