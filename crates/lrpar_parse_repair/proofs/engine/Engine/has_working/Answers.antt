use Rattle.std.proofs.Common.{◌+◌, ◌∙◌, arith, length, refl}
use Rattle.lrpar_parse_lexemes.specs.Views.{token_by}
use Rattle.lrpar_parse_repair.proofs.EngineLemmas.{base_stays, untested}
use Rattle.lrpar_parse_repair.proofs.SomeWorksLemmas.{none_of_all, none_works, tested_of_all, tested_one_more}
use Rattle.lrpar_parse_repair.proofs.engine.Engine.has_working.Goals as goal

pub loop-steps-init : goal.loop-steps-init
loop-steps-init g c =
    let d = c.args.self.now.checked.now in
    record {
      base = refl;
      none = λ n steps below. absurd (omega (arith, below));
      bounded = untested d.grammar d.table d.cap _ c.args.states.now;
    }

pub loop-steps-preserved : goal.loop-steps-preserved
loop-steps-preserved g c =
    let index = g.StorageT.StorageIndex.index in
    let self = c.args.self.now in
    let d = self.checked.now in
    let l = c.loop-steps in
    let start = c.args.states.now in
    let answer = c.args.answer.now in
    record {
      base = base_stays _ _ _ _ _ _ c.in_ok-works_from_base.ensures.tested ∙ l.invariant.base;
      none = none_works (token_by index g.LexemeT.Lexeme.parts) d.grammar d.table self.lexemes.now index self.shifts start.base c.args.place answer l.steps-index c.steps-item.result
          c.deref.result.now _ _ c.loop-steps-test.true c.steps-item.is l.invariant.base c.deref.ensures.value c.in_ok-works_from_base.ensures.works c.if-branch.false l.invariant.none;
      bounded = tested_one_more d.grammar d.table index d.cap self.shifts start l.states _ answer l.steps-index c.steps-item.result c.deref.result.now
          c.loop-steps-test.true c.steps-item.is c.deref.ensures.value c.in_ok-works_from_base.ensures.tested l.invariant.base l.invariant.bounded;
    }

pub returns-then-branch-clause-bounded : goal.returns-then-branch-clause-bounded
returns-then-branch-clause-bounded g c =
    let index = g.StorageT.StorageIndex.index in
    let self = c.args.self.now in
    let d = self.checked.now in
    let l = c.loop-steps in
    let start = c.args.states.now in
    let answer = c.args.answer.now in
    let here = tested_one_more d.grammar d.table index d.cap self.shifts start l.states _ answer l.steps-index c.steps-item.result c.deref.result.now
    c.loop-steps-test.true c.steps-item.is c.deref.ensures.value c.in_ok-works_from_base.ensures.tested l.invariant.base l.invariant.bounded in
    tested_of_all d.grammar d.table index d.cap (length start.base) self.shifts answer (l.steps-index + 1) start _ here

pub returns-clause-works : goal.returns-clause-works
returns-clause-works g c =
    let index = g.StorageT.StorageIndex.index in
    let self = c.args.self.now in
    let d = self.checked.now in
    let l = c.loop-steps in
    let none = none_of_all (token_by index g.LexemeT.Lexeme.parts) d.grammar d.table self.lexemes.now index self.shifts c.args.states.now.base c.args.place
    c.args.answer.now l.steps-index c.loop-steps-test.false l.invariant.none in
    (λ no. absurd (cc), λ some. absurd (none some))

pub returns-clause-bounded : goal.returns-clause-bounded
returns-clause-bounded g c =
    let self = c.args.self.now in
    let d = self.checked.now in
    let l = c.loop-steps in
    tested_of_all d.grammar d.table g.StorageT.StorageIndex.index d.cap (length c.args.states.now.base) self.shifts c.args.answer.now l.steps-index c.args.states.now l.states l.invariant.bounded
