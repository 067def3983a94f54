use Rattle.std.proofs.Common.{arith}
use Rattle.lrpar_table_rows.proofs.EntryLemmas.{closed, no_action_after, no_goto_after}
use Rattle.lrpar_table_rows.proofs.table.StateTable.states_len.Goals as goal

pub returns : goal.returns
returns g c =
    let states = c.rows_len.ensures in
    let fits = c.self.invariant.states_fit in
    let limit = g.StorageT.StorageIndex.limit in
    rw (← c.self.view_is)
    (record {
      states = states;
      fits = omega (arith, states, fits);
      closed = closed limit _ c.self.invariant;
      no_action = no_action_after limit _ c.self.invariant;
      no_goto = no_goto_after limit _ c.self.invariant;
    })
