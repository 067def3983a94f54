use Rattle.std.proofs.Common.{◌∙◌, inr, sym, IsTrue}
use Rattle.lrpar_table_stops.specs.Met.{is_met}
use Rattle.lrpar_table_stops.specs.ErrorStates.{Enters, Repairs}
use Rattle.lrpar_table_stops.proofs.met.add_at.Goals as goal

pub add_tokens-requires-clause-looks : goal.add_tokens-requires-clause-looks
add_tokens-requires-clause-looks g c =
    let index = g.StorageT.StorageIndex.index in
    λ t low. Enters (index c.in-Shift.next.0) t (inr (index c.args.state.0, index c.args.token.0, sym c.in-Shift.ensures.action)) low

pub add_tokens-requires-in-Error-clause-looks : goal.add_tokens-requires-in-Error-clause-looks
add_tokens-requires-in-Error-clause-looks g c =
    let index = g.StorageT.StorageIndex.index in
    let sets = c.args.sets.now in
    let s = index c.args.state.0 in
    let t = index c.args.token.0 in
    let met : IsTrue (is_met sets s t) = sym c.is_met.ensures ∙ c.if-is_met.true in
    λ other low. Repairs s t other (c.requires.right.met s t met) (sym c.in-Error.ensures.action) low
