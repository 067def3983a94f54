use Rattle.std.proofs.lemmas.Bool.{iff_false}
use Rattle.lrpar_table_rows.specs.Table.{IsGotoEntry}
use Rattle.lrpar_table_rows.proofs.TestLemmas.{accepted, refused}
use Rattle.lrpar_table_conditions.specs.Entrywise.{GotoHolds}
use Rattle.lrpar_table_conditions.proofs.EntryTests.{all_gotos, entries_more, entries_tested, entry_is, entry_there}
use Rattle.lrpar_table_conditions.proofs.checkable.Checkable.gotos_hold.Goals as goal

pub goto_holds-requires-clause-next : goal.goto_holds-requires-clause-next
goto_holds-requires-clause-next g c =
    let index = g.StorageT.StorageIndex.index in
    let at = c.gotos_of.ensures in
    (entry_is (λ r. index r.0) (λ s. index s.0) c.gotos_of.result.0.now c.gotos_of.result.1.now _ at.states at.entries (IsGotoEntry c.args.self.now.stable.now.rules c.args.self.now.stable.now.states)
    at.within c.loop-place.place _ _ c.loop-place-test.true c.index-rules-place.is c.index-states-place.is).within

pub loop-place-preserved : goal.loop-place-preserved
loop-place-preserved g c =
    let index = g.StorageT.StorageIndex.index in
    let at = c.gotos_of.ensures in
    let parts = c.args.self.now in
    entries_more (λ r. index r.0) (λ s. index s.0) c.gotos_of.result.0.now c.gotos_of.result.1.now _ at.states at.entries (λ e. GotoHolds parts.grm.now parts.sgraph.now parts.stable.now c.args.condition (index c.args.s.0) e.0 e.1)
    c.loop-place.place _ _ c.loop-place-test.true c.index-rules-place.is c.index-states-place.is
    (c.goto_holds.ensures.0 c.if-not-goto_holds.false) c.loop-place.invariant

pub returns : goal.returns
returns g c =
    let index = g.StorageT.StorageIndex.index in
    let at = c.gotos_of.ensures in
    let parts = c.args.self.now in
    let Holds = GotoHolds parts.grm.now parts.sgraph.now parts.stable.now c.args.condition (index c.args.s.0) in
    accepted ((all_gotos parts.stable.now (index c.args.s.0) _ Holds at.exact).0 (entries_tested (λ r. index r.0) (λ s. index s.0) c.gotos_of.result.0.now c.gotos_of.result.1.now _ at.states at.entries
    (λ e. Holds e.0 e.1) c.loop-place.place c.loop-place-test.false c.loop-place.invariant))

pub returns-then-not-goto_holds : goal.returns-then-not-goto_holds
returns-then-not-goto_holds g c =
    let index = g.StorageT.StorageIndex.index in
    let at = c.gotos_of.ensures in
    let there = entry_there (λ r. index r.0) (λ s. index s.0) c.gotos_of.result.0.now c.gotos_of.result.1.now _ at.states at.entries
    c.loop-place.place _ _ c.loop-place-test.true c.index-rules-place.is c.index-states-place.is in
    refused (λ each. iff_false c.goto_holds.ensures c.if-not-goto_holds.true (each _ _ ((at.exact _ _).0 there)))
