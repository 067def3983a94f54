use Rattle.std.proofs.Common.{◌≡◌, ◌+◌, ◌-◌, ℕ, IsTrue, arith, subst, sym}
use Rattle.std.proofs.lemmas.Result.{IfOk-weaker, on_ok_weaker}
use Rattle.lrpar_parse_repair.specs.Sequences.{CanGoOn, PlainShift}
use Rattle.lrpar_parse_repair.proofs.SequenceLemmas.{go_on_ends, go_on_next, go_on_stops, taken_within}
use Rattle.lrpar_parse_repair.proofs.EngineLemmas.{moved_more, unmoved}
use Rattle.lrpar_parse_repair.proofs.engine.Engine.can_go_on.Goals as goal

pub lexemes-init : goal.lexemes-init
lexemes-init g c =
    let token = λ (x : g.row.LexemeT.Denot). g.StorageT.StorageIndex.index (g.LexemeT.Lexeme.parts x).token in
    let d = c.args.self.now.checked.now in
    let kind = g.S.StateStack in
    let all : c.args.self.now.shifts ≡ c.args.self.now.shifts - 0 = omega arith in
    let goes_on = λ (k : ℕ). CanGoOn token d.grammar d.table c.args.self.now.lexemes.now k (kind.states c.args.stack.now) c.args.place in
    record {
      stack = c.requires.stack;
      within = c.requires.within;
      moved = unmoved kind.states kind.reduces g.S.ShiftStack.shifts d.grammar d.table d.cap 0 c.args.stack.now;
      left = (λ h. subst goes_on (sym all) h, λ h. subst goes_on all h);
    }

pub returns-then-at-self-clause-goes_on : goal.returns-then-at-self-clause-goes_on
returns-then-at-self-clause-goes_on g c =
    let token = λ (x : g.row.LexemeT.Denot). g.StorageT.StorageIndex.index (g.LexemeT.Lexeme.parts x).token in
    let d = c.args.self.now.checked.now in
    let kind = g.S.StateStack in
    let l = c.lexemes in
    IfOk-weaker c.try_accept.result _ _
    (λ accepts h. go_on_ends token d.grammar d.table c.args.self.now.lexemes.now _ (IsTrue accepts) c.args.self.now.shifts l.counter (kind.states l.stack) l.at
    c.lexemes-test.true c.if-at-self.true h l.invariant.left)
    c.try_accept.ensures.accepts

pub returns-in-None-clause-goes_on : goal.returns-in-None-clause-goes_on
returns-in-None-clause-goes_on g c =
    let token = λ (x : g.row.LexemeT.Denot). g.StorageT.StorageIndex.index (g.LexemeT.Lexeme.parts x).token in
    let d = c.args.self.now.checked.now in
    let kind = g.S.StateStack in
    let l = c.lexemes in (
      λ h. absurd (cc),
      λ all. absurd (go_on_stops token d.grammar d.table c.args.self.now.lexemes.now _ c.args.self.now.shifts l.counter (kind.states l.stack) l.at _ _
          c.lexemes-test.true l.invariant.within c.if-at-self.false c.in_ok-shift.ensures.taken c.in-None.is l.invariant.left all),
    )

pub lexemes-preserved : goal.lexemes-preserved
lexemes-preserved g c =
    let token = λ (x : g.row.LexemeT.Denot). g.StorageT.StorageIndex.index (g.LexemeT.Lexeme.parts x).token in
    let d = c.args.self.now.checked.now in
    let kind = g.S.StateStack in
    let l = c.lexemes in
    record {
      stack = c.in_ok-shift.ensures.stack;
      within = taken_within token d.grammar d.table c.args.self.now.lexemes.now (kind.states l.stack) l.at PlainShift _ _ _ l.invariant.within c.in_ok-shift.ensures.taken c.in-Some.is;
      moved = moved_more kind.states kind.reduces g.S.ShiftStack.shifts d.grammar d.table d.cap l.counter 1 (l.counter + 1) c.args.stack.now l.stack c.shift.new.stack
          (omega arith) l.invariant.moved c.in_ok-shift.ensures.moved;
      left = go_on_next token d.grammar d.table c.args.self.now.lexemes.now _ c.args.self.now.shifts l.counter (kind.states l.stack) l.at _ _ c.in-Some.next
          c.lexemes-test.true c.in_ok-shift.ensures.taken c.in-Some.is l.invariant.left;
    }

pub returns-in-None-clause-moved : goal.returns-in-None-clause-moved
returns-in-None-clause-moved g c =
    let d = c.args.self.now.checked.now in
    let kind = g.S.StateStack in
    let l = c.lexemes in
    moved_more kind.states kind.reduces g.S.ShiftStack.shifts d.grammar d.table d.cap l.counter 1 c.args.self.now.shifts c.args.stack.now l.stack c.shift.new.stack
    (omega arith) l.invariant.moved c.in_ok-shift.ensures.moved

pub returns-then-at-self-clause-moved : goal.returns-then-at-self-clause-moved
returns-then-at-self-clause-moved g c =
    let d = c.args.self.now.checked.now in
    let kind = g.S.StateStack in
    let l = c.lexemes in
    on_ok_weaker c.try_accept.result
    (moved_more kind.states kind.reduces g.S.ShiftStack.shifts d.grammar d.table d.cap l.counter 1 c.args.self.now.shifts c.args.stack.now l.stack c.try_accept.new.stack
    (omega arith) l.invariant.moved)
    c.try_accept.ensures.moved

pub returns-clause-moved : goal.returns-clause-moved
returns-clause-moved g c =
    let d = c.args.self.now.checked.now in
    let kind = g.S.StateStack in
    let l = c.lexemes in
    moved_more kind.states kind.reduces g.S.ShiftStack.shifts d.grammar d.table d.cap l.counter 0 c.args.self.now.shifts c.args.stack.now l.stack l.stack
    (omega arith) l.invariant.moved (unmoved kind.states kind.reduces g.S.ShiftStack.shifts d.grammar d.table d.cap 0 l.stack)
