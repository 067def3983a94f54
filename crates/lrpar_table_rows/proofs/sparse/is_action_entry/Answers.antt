use Rattle.std.proofs.Common.{ap}
use Rattle.lrpar_table_rows.specs.PlainRows.{action_entry, plain_action}
use Rattle.lrpar_table_rows.proofs.EntryLemmas.{action_out_of_range, shift_in_range}
use Rattle.lrpar_table_rows.proofs.sparse.is_action_entry.Goals as goal

pub returns-else-from-tokens : goal.returns-else-from-tokens
returns-else-from-tokens g c =
    action_out_of_range c.args.tokens c.args.states c.from.result (action_entry g.StorageT.StorageIndex.index (c.args.token, c.args.action))
    c.from.ensures c.if-from-tokens.false

pub returns-in-Shift : goal.returns-in-Shift
returns-in-Shift g c =
    let index = g.StorageT.StorageIndex.index in
    shift_in_range c.args.tokens c.args.states c.from.result (index c.in-Shift.state.0) c.from-in-Shift.result
    (action_entry index (c.args.token, c.args.action)) c.from.ensures c.if-from-tokens.true (ap (plain_action index) c.in-Shift.is)
    c.from-in-Shift.ensures
