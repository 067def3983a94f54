use Rattle.std.proofs.Common.{◌≡◌, ◌∙◌, List, ℕ, ap, inr, subst, sym}
use Rattle.lrpar_table_stacks.specs.Reduction.{top_action}
use Rattle.lrpar_table_stacks.specs.Stack.{IsStack}
use Rattle.lrpar_table_rows.specs.PlainRows.{plain_action}
use Rattle.lrpar_table_rows.specs.Table.{ShiftTo}
use Rattle.lrpar_table_check.proofs.CheckedLemmas.{run_of_checked}
use Rattle.lrpar_table_stacks.proofs.SettleLemmas.{on_err_always, stack_shifted}
use Rattle.lrpar_grammar_places.proofs.FaultLemmas.{no_value}
use Rattle.lrpar_table_check.proofs.check.ParserData.feed_on.Goals as goal

pub returns-in_err-shift-in-Shift-clause-short_of_memory : goal.returns-in_err-shift-in-Shift-clause-short_of_memory
returns-in_err-shift-in-Shift-clause-short_of_memory g c =
    let index = g.StorageT.StorageIndex.index in
    let table = c.args.self.now.table in
    let t = index c.args.t.0 in
    let states = g.S.StateStack.states c.settle_on.new.stack in
    let shifts : top_action table t states ≡ ShiftTo (index c.in-Shift.next.0) =
    sym c.in_ok-action.ensures.action ∙ ap (plain_action index) c.in-Shift.is in
    on_err_always c.from_residual-in_err-shift-in-Shift.result _ (inr (record {
      settled = c.settle_on.new.stack;
      count = _;
      settles = c.in_ok-action.ensures.settled;
      next = index c.in-Shift.next.0;
      due = shifts;
      stays = c.in_err-shift-in-Shift.ensures.unchanged;
      of_rest = c.in_err-shift-in-Shift.ensures.fails;
    }))

pub returns-in_ok-shift-in-Shift-clause-stack : goal.returns-in_ok-shift-in-Shift-clause-stack
returns-in_ok-shift-in-Shift-clause-stack g c =
    let index = g.StorageT.StorageIndex.index in
    let d = c.args.self.now in
    let t = index c.args.t.0 in
    let states = g.S.StateStack.states c.settle_on.new.stack in
    let shifts : top_action d.table t states ≡ ShiftTo (index c.in-Shift.next.0) =
    sym c.in_ok-action.ensures.action ∙ ap (plain_action index) c.in-Shift.is in
    let run = run_of_checked d c.stable-lemma.ensures.checked c.stable-lemma.ensures.runs c.stable-lemma.ensures.bounds in
    let more = stack_shifted d.grammar d.table d.cap run t c.requires.token states (index c.in-Shift.next.0) c.settle_on.ensures.stack shifts in
    subst (λ (st : List ℕ). IsStack d.table st) (sym c.in_ok-shift-in-Shift.ensures.states) more

pub returns-in_err-action-clause-fed : goal.returns-in_err-action-clause-fed
returns-in_err-action-clause-fed g c = no_value c.from_residual.result _ _ c.from_residual.ensures.1

pub returns-in_err-shift-in-Shift-clause-fed : goal.returns-in_err-shift-in-Shift-clause-fed
returns-in_err-shift-in-Shift-clause-fed g c = no_value c.from_residual-in_err-shift-in-Shift.result _ _ c.from_residual-in_err-shift-in-Shift.ensures.1
