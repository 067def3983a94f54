use Rattle.std.proofs.lemmas.Bool.{iff_false}
use Rattle.lrpar_table_rows.specs.PlainRows.{plain_action}
use Rattle.lrpar_table_rows.specs.Table.{IsActionEntry}
use Rattle.lrpar_table_rows.proofs.TestLemmas.{accepted, refused}
use Rattle.lrpar_table_conditions.specs.Entrywise.{ActionHolds}
use Rattle.lrpar_table_conditions.proofs.EntryTests.{actions_asked, entries_more, entries_tested, entry_is, entry_there, named_each}
use Rattle.lrpar_table_conditions.proofs.checkable.Checkable.actions_hold.Goals as goal

pub action_holds-requires-clause-within : goal.action_holds-requires-clause-within
action_holds-requires-clause-within g c =
    let index = g.StorageT.StorageIndex.index in
    let at = c.actions_of.ensures in
    (entry_is (λ t. index t.0) (plain_action index) c.actions_of.result.0.now c.actions_of.result.1.now _ at.actions at.entries (IsActionEntry c.args.self.now.stable.now.tokens c.args.self.now.stable.now.states)
    at.within c.loop-place.place _ _ c.loop-place-test.true c.index-tokens-place.is c.index-actions-place.is).within

pub action_holds-requires-clause-named : goal.action_holds-requires-clause-named
action_holds-requires-clause-named g c =
    let index = g.StorageT.StorageIndex.index in
    let at = c.actions_of.ensures in
    let parts = c.args.self.now in
    let there = entry_there (λ t. index t.0) (plain_action index) c.actions_of.result.0.now c.actions_of.result.1.now _ at.actions at.entries
    c.loop-place.place _ _ c.loop-place-test.true c.index-tokens-place.is c.index-actions-place.is in
    named_each parts.grm.now parts.sgraph.now parts.stable.now (index c.args.s.0) (c.requires.shape.reduces (index c.args.s.0)) _ _ ((at.exact _ _).0 there).0

pub loop-place-preserved : goal.loop-place-preserved
loop-place-preserved g c =
    let index = g.StorageT.StorageIndex.index in
    let at = c.actions_of.ensures in
    let parts = c.args.self.now in
    entries_more (λ t. index t.0) (plain_action index) c.actions_of.result.0.now c.actions_of.result.1.now _ at.actions at.entries (λ e. ActionHolds parts.grm.now parts.sgraph.now parts.stable.now c.args.condition (index c.args.s.0) e.0 e.1)
    c.loop-place.place _ _ c.loop-place-test.true c.index-tokens-place.is c.index-actions-place.is
    (c.action_holds.ensures.0 c.if-not-action_holds.false) c.loop-place.invariant

pub returns : goal.returns
returns g c =
    let index = g.StorageT.StorageIndex.index in
    let at = c.actions_of.ensures in
    let parts = c.args.self.now in
    let asked = actions_asked parts.grm.now parts.sgraph.now parts.stable.now c.args.condition (index c.args.s.0) _ at.exact in
    accepted (asked.0 (entries_tested (λ t. index t.0) (plain_action index) c.actions_of.result.0.now c.actions_of.result.1.now _ at.actions at.entries (λ e. ActionHolds parts.grm.now parts.sgraph.now parts.stable.now c.args.condition (index c.args.s.0) e.0 e.1)
    c.loop-place.place c.loop-place-test.false c.loop-place.invariant))

pub returns-then-not-action_holds : goal.returns-then-not-action_holds
returns-then-not-action_holds g c =
    let index = g.StorageT.StorageIndex.index in
    let at = c.actions_of.ensures in
    let there = entry_there (λ t. index t.0) (plain_action index) c.actions_of.result.0.now c.actions_of.result.1.now _ at.actions at.entries
    c.loop-place.place _ _ c.loop-place-test.true c.index-tokens-place.is c.index-actions-place.is in
    refused (λ each. iff_false c.action_holds.ensures c.if-not-action_holds.true (each _ _ ((at.exact _ _).0 there).0))
