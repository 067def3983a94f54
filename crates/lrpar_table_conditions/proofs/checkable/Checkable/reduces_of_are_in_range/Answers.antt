use Rattle.std.proofs.lemmas.Bool.{iff_false}
use Rattle.lrpar_table_rows.specs.PlainRows.{plain_action}
use Rattle.lrpar_table_rows.specs.Table.{ReduceBy}
use Rattle.lrpar_table_rows.proofs.TestLemmas.{accepted, refused}
use Rattle.lrpar_table_conditions.specs.Entrywise.{IsInRange}
use Rattle.lrpar_table_conditions.proofs.EntryTests.{all_actions, entries_more, entries_tested, entry_there, named_each}
use Rattle.lrpar_table_conditions.proofs.checkable.Checkable.reduces_of_are_in_range.Goals as goal

pub loop-place-preserved : goal.loop-place-preserved
loop-place-preserved g c =
    let index = g.StorageT.StorageIndex.index in
    let at = c.actions_of.ensures in
    entries_more (λ t. index t.0) (plain_action index) c.actions_of.result.0.now c.actions_of.result.1.now _ at.actions at.entries (λ e. IsInRange c.args.self.now.grm.now e.1)
    c.loop-place.place _ _ c.loop-place-test.true c.index-tokens-place.is c.index-actions-place.is
    (c.is_in_range.ensures.0 c.if-not-is_in_range.false) c.loop-place.invariant

pub returns : goal.returns
returns g c =
    let index = g.StorageT.StorageIndex.index in
    let at = c.actions_of.ensures in
    let asked = all_actions c.args.self.now.stable.now (index c.args.s.0) _ (λ _ action. IsInRange c.args.self.now.grm.now action) at.exact (λ t. tt) in
    accepted (λ t p named. asked.0 (entries_tested (λ t. index t.0) (plain_action index) c.actions_of.result.0.now c.actions_of.result.1.now _ at.actions at.entries
    (λ e. IsInRange c.args.self.now.grm.now e.1) c.loop-place.place c.loop-place-test.false c.loop-place.invariant) t (ReduceBy p) named)

pub returns-then-not-is_in_range : goal.returns-then-not-is_in_range
returns-then-not-is_in_range g c =
    let index = g.StorageT.StorageIndex.index in
    let at = c.actions_of.ensures in
    let parts = c.args.self.now in
    let there = entry_there (λ t. index t.0) (plain_action index) c.actions_of.result.0.now c.actions_of.result.1.now _ at.actions at.entries
    c.loop-place.place _ _ c.loop-place-test.true c.index-tokens-place.is c.index-actions-place.is in
    refused (λ each. iff_false c.is_in_range.ensures c.if-not-is_in_range.true
    (named_each parts.grm.now parts.sgraph.now parts.stable.now (index c.args.s.0) each _ _ ((at.exact _ _).0 there).0))
