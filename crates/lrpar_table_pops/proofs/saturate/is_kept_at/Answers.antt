use Rattle.std.proofs.Common.{◌≡◌, ◌∙◌, ap, refl, subst, sym, ℕ}
use Rattle.std.specs.Prelude.{IsTrue}
use Rattle.lrpar_grammar.specs.Grammar.{Grammar}
use Rattle.lrpar_table_rows.specs.PlainRows.{plain_action}
use Rattle.lrpar_table_rows.specs.Table.{action_of}
use Rattle.lrpar_table_pops.specs.Closed.{IsKeptBy}
use Rattle.lrpar_table_pops.specs.FollowAll.{IsRightAction}
use Rattle.lrpar_table_pops.proofs.GrowthLemmas.{read_at}
use Rattle.lrpar_table_pops.proofs.KeptLemmas.{kept_none, kept_right, other_tokens_more}
use Rattle.lrpar_table_pops.proofs.saturate.is_kept_at.Goals as goal

pub loop-place-preserved : goal.loop-place-preserved
loop-place-preserved g c =
    let tokens = c.actions_at.result.0.now in
    let token = c.index-tokens-place.result in
    other_tokens_more g.StorageT.StorageIndex.index tokens c.loop-place.place c.args.number token
    (read_at tokens tokens c.loop-place.place token refl c.loop-place-test.true c.index-tokens-place.is) (λ same. c.if-from-number.false (c.from.ensures ∙ same))
    c.loop-place.invariant

pub returns-then-from-number : goal.returns-then-from-number
returns-then-from-number g c = λ kept.
    let index = g.StorageT.StorageIndex.index in
    let d = c.args.checked.now in
    let s = index c.args.state.0 in
    let number = c.args.number in
    let action = plain_action index c.index-actions-place.result in
    let at : index c.index-tokens-place.result.0 ≡ number = sym c.from.ensures ∙ c.if-from-number.true in
    let read = rw c.stable.ensures.table at (c.actions_at.ensures.actions c.loop-place.place c.index-tokens-place.result c.index-actions-place.result c.loop-place-test.true
    c.index-tokens-place.is c.index-actions-place.is) in
    let acts : action_of d.table s number ≡ action = ap (action_of d.table s) (sym at) ∙ read in
    let right = kept_right d.grammar d.graph d.table c.stable.ensures.sound.safe s number (action_of d.table s number) refl kept in
    let here = subst (λ (x : Grammar). (t : ℕ) → IsRightAction x t action → IsKeptBy x action → IsTrue c.is_kept_by.result) c.grm.ensures c.is_kept_by.ensures in
    here number (subst (IsRightAction d.grammar number) acts right) (subst (IsKeptBy d.grammar) acts kept)

pub returns : goal.returns
returns g c = λ kept.
    let all = rw c.stable.ensures.table at c.actions_at.ensures.all in
    absurd (kept_none g.StorageT.StorageIndex.index c.args.checked.now.grammar c.args.checked.now.table c.args.state c.actions_at.result.0.now c.loop-place.place
    c.args.number c.loop-place-test.false all c.loop-place.invariant kept)
