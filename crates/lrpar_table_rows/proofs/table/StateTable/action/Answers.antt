use Rattle.std.proofs.Common.{refl, sym, subst}
use Rattle.std.specs.List.Sorted.{IsStrictlyIncreasing}
use Rattle.lrpar_table_rows.specs.PlainRows.{plain_action}
use Rattle.lrpar_table_rows.proofs.EntryLemmas.{action_stored, action_within, actions_good}
use Rattle.lrpar_table_rows.proofs.TableLemmas.{action_none, keys_at, value_at}
use Rattle.lrpar_table_rows.proofs.table.StateTable.action.Goals as goal

pub value_of-requires-clause-ascending : goal.value_of-requires-clause-ascending
value_of-requires-clause-ascending g c =
    let index = g.StorageT.StorageIndex.index in
    let good = actions_good g.StorageT.StorageIndex.limit _ c.self.invariant (index c.args.s.0) in
    rw c.from.ensures (subst IsStrictlyIncreasing (keys_at (λ t. index t.0) (plain_action index) c.self.inside.actions (index c.args.s.0)) good.ascending)

pub returns-in-Some-clause-action : goal.returns-in-Some-clause-action
returns-in-Some-clause-action g c =
    let index = g.StorageT.StorageIndex.index in
    let read = rw c.from.ensures at c.in-Some.ensures in
    let there = value_at (λ t. index t.0) (plain_action index) c.self.inside.actions (index c.args.s.0) (index c.args.t.0) c.in-Some.action read in
    let stored = action_stored g.StorageT.StorageIndex.limit _ c.self.invariant (index c.args.s.0) (index c.args.t.0) (plain_action index c.in-Some.action) there in
    rw (← c.self.view_is) (sym stored.0)

pub returns-in-Some-clause-within : goal.returns-in-Some-clause-within
returns-in-Some-clause-within g c =
    let index = g.StorageT.StorageIndex.index in
    rw (← c.self.view_is) (action_within g.StorageT.StorageIndex.limit _ c.self.invariant (index c.args.s.0) (index c.args.t.0))

pub returns-in-None-clause-action : goal.returns-in-None-clause-action
returns-in-None-clause-action g c =
    let index = g.StorageT.StorageIndex.index in
    let read = rw c.from.ensures at c.in-None.ensures in
    rw (← c.self.view_is)
    (action_none index g.StorageT.StorageIndex.limit _ c.self.inside.actions (index c.args.s.0) (index c.args.t.0) c.self.invariant refl read)

pub returns-in-None-clause-within : goal.returns-in-None-clause-within
returns-in-None-clause-within g c =
    let index = g.StorageT.StorageIndex.index in
    rw (← c.self.view_is) (action_within g.StorageT.StorageIndex.limit _ c.self.invariant (index c.args.s.0) (index c.args.t.0))
