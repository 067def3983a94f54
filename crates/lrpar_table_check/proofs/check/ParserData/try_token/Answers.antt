use Rattle.std.proofs.Common.{◌∙◌, ap, inl, inr, refl, sym}
use Rattle.lrpar_table_stacks.specs.Overlay.{overlaid}
use Rattle.lrpar_table_rows.specs.PlainRows.{plain_action}
use Rattle.lrpar_table_check.proofs.ExpectedLemmas.{accept_expected, fail_unexpected, reduce_unexpected, shift_expected}
use Rattle.lrpar_table_stacks.proofs.OverSettleLemmas.{settled_over, short_of_memory_over}
use Rattle.lrpar_table_stacks.proofs.SettleLemmas.{on_err_always}
use Rattle.lrpar_table_check.proofs.check.ParserData.try_token.Goals as goal

pub returns-in_err-settle_on-clause-short_of_memory : goal.returns-in_err-settle_on-clause-short_of_memory
returns-in_err-settle_on-clause-short_of_memory g c =
    let d = c.args.self.now in
    on_err_always c.from_residual.result _
    (short_of_memory_over d.grammar d.table (g.StorageT.StorageIndex.index c.args.t.0) c.args.states.now c.settle_on.new.stack c.in_err-settle_on.ensures.short_of_memory)

pub returns-in-Shift-clause-expected : goal.returns-in-Shift-clause-expected
returns-in-Shift-clause-expected g c =
    let index = g.StorageT.StorageIndex.index in
    let d = c.args.self.now in
    let by = c.in_ok-settle_on.ensures.settled.of_states in
    let read = sym c.in_ok-settle_on.ensures.action in (
      λ _.
          elim c.in-Shift.is [
            | inl (next, shifts) ↦
                shift_expected d.grammar d.table d.cap (index c.args.t.0) c.stable-lemma.ensures.runs (overlaid c.args.states.now) _ (overlaid c.settle_on.new.stack) by (index next.0)
                (read ∙ ap (plain_action index) shifts)
            | inr accepts ↦
                accept_expected d.grammar d.table d.cap (index c.args.t.0) c.stable-lemma.ensures.runs (overlaid c.args.states.now) _ (overlaid c.settle_on.new.stack) by
                (read ∙ ap (plain_action index) accepts)
          ],
      λ _. refl,
    )

pub returns-in-Shift-clause-base : goal.returns-in-Shift-clause-base
returns-in-Shift-clause-base g c =
    let d = c.args.self.now in
    (settled_over d.grammar d.table (g.StorageT.StorageIndex.index c.args.t.0) d.cap c.args.states.now _ c.settle_on.new.stack c.in_ok-settle_on.ensures.settled).keeps.base

pub returns-in-Reduce-clause-expected : goal.returns-in-Reduce-clause-expected
returns-in-Reduce-clause-expected g c =
    let index = g.StorageT.StorageIndex.index in
    let d = c.args.self.now in
    let by = c.in_ok-settle_on.ensures.settled.of_states in
    let read = sym c.in_ok-settle_on.ensures.action in (
      λ no. absurd (cc),
      λ expected.
          elim c.in-Reduce.is [
            | inl (p, reduces) ↦
                absurd (reduce_unexpected d.grammar d.table d.cap (index c.args.t.0) c.stable-lemma.ensures.runs (overlaid c.args.states.now) _ (overlaid c.settle_on.new.stack) by (index p.0)
                (read ∙ ap (plain_action index) reduces) expected)
            | inr fails ↦
                absurd (fail_unexpected d.grammar d.table d.cap (index c.args.t.0) c.stable-lemma.ensures.runs (overlaid c.args.states.now) _ (overlaid c.settle_on.new.stack) by
                (read ∙ ap (plain_action index) fails) expected)
          ],
    )

pub returns-in-Reduce-clause-base : goal.returns-in-Reduce-clause-base
returns-in-Reduce-clause-base g c =
    let d = c.args.self.now in
    (settled_over d.grammar d.table (g.StorageT.StorageIndex.index c.args.t.0) d.cap c.args.states.now _ c.settle_on.new.stack c.in_ok-settle_on.ensures.settled).keeps.base
