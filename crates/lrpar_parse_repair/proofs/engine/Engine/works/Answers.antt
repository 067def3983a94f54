use Rattle.std.proofs.Common.{◌+◌, arith, length}
use Rattle.std.proofs.lemmas.List.{drop_all}
use Rattle.std.proofs.lemmas.Result.{IfOk-weaker, on_ok_weaker}
use Rattle.lrpar_parse_repair.specs.PlainSteps.{plain_step}
use Rattle.lrpar_parse_repair.proofs.SequenceLemmas.{taken_within, works_next, works_stops}
use Rattle.lrpar_parse_repair.proofs.EngineLemmas.{moved_more, unmoved}
use Rattle.lrpar_parse_repair.proofs.engine.Engine.works.Goals as goal

pub loop-step-init : goal.loop-step-init
loop-step-init g c =
    let d = c.args.self.now.checked.now in
    let kind = g.S.StateStack in
    record {
      stack = c.requires.stack;
      within = c.requires.within;
      moved = unmoved kind.states kind.reduces g.S.ShiftStack.shifts d.grammar d.table d.cap 0 c.args.stack.now;
      left = (λ h. h, λ h. h);
    }

pub returns-in-None-clause-works : goal.returns-in-None-clause-works
returns-in-None-clause-works g c =
    let index = g.StorageT.StorageIndex.index in
    let token = λ (x : g.row.LexemeT.Denot). index (g.LexemeT.Lexeme.parts x).token in
    let d = c.args.self.now.checked.now in
    let kind = g.S.StateStack in
    let l = c.loop-step in (
      λ h. absurd (cc),
      λ all. absurd (works_stops token d.grammar d.table c.args.self.now.lexemes.now index _ c.args.self.now.shifts c.args.steps.now l.step-index c.step-item.result
          (kind.states l.stack) l.at _ _ c.loop-step-test.true c.step-item.is c.in_ok-try_step.ensures.taken c.in-None.is l.invariant.left all),
    )

pub loop-step-preserved : goal.loop-step-preserved
loop-step-preserved g c =
    let index = g.StorageT.StorageIndex.index in
    let token = λ (x : g.row.LexemeT.Denot). index (g.LexemeT.Lexeme.parts x).token in
    let d = c.args.self.now.checked.now in
    let kind = g.S.StateStack in
    let l = c.loop-step in
    record {
      stack = c.in_ok-try_step.ensures.stack;
      within = taken_within token d.grammar d.table c.args.self.now.lexemes.now (kind.states l.stack) l.at (plain_step index c.step-item.result) _ _ _
          l.invariant.within c.in_ok-try_step.ensures.taken c.in-Some.is;
      moved = moved_more kind.states kind.reduces g.S.ShiftStack.shifts d.grammar d.table d.cap l.step-index 1 (l.step-index + 1) c.args.stack.now l.stack c.try_step.new.stack
          (omega arith) l.invariant.moved c.in_ok-try_step.ensures.moved;
      left = works_next token d.grammar d.table c.args.self.now.lexemes.now index _ c.args.self.now.shifts c.args.steps.now l.step-index c.step-item.result
          (kind.states l.stack) l.at _ _ c.in-Some.next c.loop-step-test.true c.step-item.is c.in_ok-try_step.ensures.taken c.in-Some.is l.invariant.left;
    }

pub returns-in-None-clause-moved : goal.returns-in-None-clause-moved
returns-in-None-clause-moved g c =
    let d = c.args.self.now.checked.now in
    let kind = g.S.StateStack in
    let l = c.loop-step in
    moved_more kind.states kind.reduces g.S.ShiftStack.shifts d.grammar d.table d.cap l.step-index 1 (length c.args.steps.now + c.args.self.now.shifts) c.args.stack.now l.stack c.try_step.new.stack
    (omega arith) l.invariant.moved c.in_ok-try_step.ensures.moved

pub returns-clause-works : goal.returns-clause-works
returns-clause-works g c =
    let index = g.StorageT.StorageIndex.index in
    let l = c.loop-step in
    let none = drop_all l.step-index c.args.steps.now c.loop-step-test.false in
    let left = rw none at l.invariant.left in
    IfOk-weaker c.can_go_on.result _ _ (λ goes_on h. (λ yes. left.0 (h.0 yes), λ works. h.1 (left.1 works))) c.can_go_on.ensures.goes_on

pub returns-clause-moved : goal.returns-clause-moved
returns-clause-moved g c =
    let d = c.args.self.now.checked.now in
    let kind = g.S.StateStack in
    let l = c.loop-step in
    on_ok_weaker c.can_go_on.result
    (moved_more kind.states kind.reduces g.S.ShiftStack.shifts d.grammar d.table d.cap l.step-index c.args.self.now.shifts (length c.args.steps.now + c.args.self.now.shifts)
    c.args.stack.now l.stack c.can_go_on.new.stack (omega (arith, l.auto.step-index-end)) l.invariant.moved)
    c.can_go_on.ensures.moved
