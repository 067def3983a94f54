use Rattle.std.proofs.Common.{subst, sym}
use Rattle.lrpar_table_stops.specs.ErrorStates.{LooksAt, Reduces}
use Rattle.lrpar_table_stops.proofs.met.add_reduction.Goals as goal

pub returns-then-reduces_at-clause-right : goal.returns-then-reduces_at-clause-right
returns-then-reduces_at-clause-right g c =
    let index = g.StorageT.StorageIndex.index in
    let grm = c.args.grm.now in
    let table = c.args.stable.now in
    let s = index c.args.from.0 in
    let t = index c.args.token.0 in
    let next = index c.args.next.0 in
    let reduces = c.reduces_at.ensures.0 c.if-reduces_at.true in
    let leads = c.requires.leads in
    let looks = Reduces (index c.args.prod.0) leads.0 s next t (c.requires.right.met s t reduces.1) reduces.0 leads.1 in
    c.add_token.ensures.right grm table c.requires.right
    (subst (λ n. LooksAt grm table n c.from-then-reduces_at.result) (sym c.from.ensures)
    (subst (λ n. LooksAt grm table next n) (sym c.from-then-reduces_at.ensures) looks))
