use Rattle.std.proofs.Common.{◌≡◌, map}
use Rattle.lrpar_table_rows.specs.PlainRows.{plain_goto}
use Rattle.lrpar_table_items.proofs.StateRowLemmas.{appended_at, done_four}
use Rattle.lrpar_table_items.proofs.state_row.push_token.Goals as goal

pub returns-clause-done : goal.returns-clause-done
returns-clause-done g c =
    let index = g.StorageT.StorageIndex.index in
    let number : index c.unwrap.result ≡ c.args.token = rw c.unwrap.ensures at c.from_index.ensures.back in
    let conflicts = rw c.deref.ensures.value at c.in_ok-push_conflicts.ensures in
    done_four c.push_action.result _ _ _ _ _
    (λ entry sr decided none.
    appended_at index c.args.precedences.now (index c.args.state.now.0) (index c.unwrap.result) c.args.token (plain_goto index c.args.shift)
    (map (λ p. index p.0) c.in_ok-prods.prods.items) _ c.accepts-accepting.result _ c.args.row.now c.push_action.new.row c.args.found.now _ number
    c.in_ok-prods.ensures c.accepts-accepting.ensures
    (record { entry = entry; conflicts = record { reduce_reduce = conflicts; shift_reduce = sr; decided = decided }; none = none }))
    (rw c.deref-2.ensures.value at c.push_action.ensures.row) (rw c.deref-2.ensures.value at c.push_action.ensures.sr)
    (rw c.deref-2.ensures.value at c.push_action.ensures.resolved) (rw c.deref-2.ensures.value at c.push_action.ensures.none)
