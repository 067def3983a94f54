use Rattle.std.proofs.Common.{IsTrue, inl, inr, rules}
use Rattle.std.proofs.lemmas.Bool.{iff_false}
use Rattle.std.proofs.lemmas.Iterator.{YieldsList-from_slice}
use Rattle.lrpar_table_rows.specs.PlainRows.{plain_action}
use Rattle.lrpar_table_rows.specs.Table.{ShiftTo}
use Rattle.lrpar_table_stacks.specs.Stack.{HasShiftTo}
use Rattle.lrpar_table_stacks.proofs.StackLemmas.{any_with_image, goto_found, shift_found}
use Rattle.lrpar_table_stacks.proofs.stack_check.is_joined.Goals as goal

pub returns-then-any : goal.returns-then-any
returns-then-any g c =
    let index = g.StorageT.StorageIndex.index in
    let at = c.actions_of.ensures in
    let any =
    any_with_image (plain_action index) (ShiftTo c.from-next.result) _ _ c.any.result c.any.ensures.ran (YieldsList-from_slice c.actions_of.result.1.now cc)
    (λ x b q k. search rules) in
    let shifts = shift_found index c.args.table.now c.args.s _ _ c.from-next.ensures c.any.result _ _ at.entries at.actions at.exact at.within any in
    (λ _. inl (shifts.0 c.if-any.true), λ _. c.if-any.true)

pub returns-else-any : goal.returns-else-any
returns-else-any g c =
    let index = g.StorageT.StorageIndex.index in
    let table = c.args.table.now in
    let at = c.actions_of.ensures in
    let any =
    any_with_image (plain_action index) (ShiftTo c.from-next.result) _ _ c.any.result c.any.ensures.ran (YieldsList-from_slice c.actions_of.result.1.now cc)
    (λ x b q k. search rules) in
    let shifts = shift_found index table c.args.s _ _ c.from-next.ensures c.any.result _ _ at.entries at.actions at.exact at.within any in
    let gotos_at = c.gotos_of.ensures in
    let other =
    any_with_image (λ x. index x.0) c.from-next.result _ _ c.any-else-any.result c.any-else-any.ensures.ran (YieldsList-from_slice c.gotos_of.result.1.now cc)
    (λ x b q k. search rules) in
    let gotos = goto_found index table c.args.s _ _ c.from-next.ensures c.any-else-any.result _ _ gotos_at.entries gotos_at.states gotos_at.exact gotos_at.within other in (
      λ h. inr (gotos.0 h),
      λ joined.
          elim joined as (λ _. IsTrue c.any-else-any.result) [
            | inl shift ↦ absurd (iff_false {P = HasShiftTo table (index c.args.s.0) (index c.args.next.0)} shifts c.if-any.false shift)
            | inr goto ↦ gotos.1 goto
          ],
    )
