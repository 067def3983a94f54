use Rattle.std.proofs.Common.{◌∙◌, ap, refl}
use Rattle.lrpar_parse_lexemes.specs.Views.{token_by}
use Rattle.lrpar_parse_repair.specs.PlainSteps.{plain_sequences}
use Rattle.lrpar_parse_repair.proofs.EngineLemmas.{base_stays, tested_more, untested}
use Rattle.lrpar_parse_repair.proofs.SequenceLemmas.{listed_more, listed_no_more}
use Rattle.lrpar_parse_repair.proofs.engine.Engine.retain_working.Goals as goal

pub loop-steps-init : goal.loop-steps-init
loop-steps-init g c =
    let d = c.args.self.now.checked.now in
    record {
      base = refl;
      listed = ap (λ items. plain_sequences g.StorageT.StorageIndex.index items) c.new-listed.ensures.items;
      bounded = untested d.grammar d.table d.cap _ c.args.states.now;
    }

pub loop-steps-preserved-then-not-works : goal.loop-steps-preserved-then-not-works
loop-steps-preserved-then-not-works g c =
    let index = g.StorageT.StorageIndex.index in
    let engine = c.args.self.now in
    let l = c.loop-steps in
    record {
      base = base_stays _ _ _ _ _ _ c.in_ok-works.ensures.tested ∙ l.invariant.base;
      listed = listed_no_more (token_by index g.LexemeT.Lexeme.parts) engine.checked.now.grammar engine.checked.now.table engine.lexemes.now index engine.shifts
          c.args.states.now.base c.args.place l.yielded l.listed.items c.in-Some.steps c.deref.result.now _ _ l.invariant.base c.deref.ensures.value
          c.in_ok-works.ensures.works c.if-not-works.true l.invariant.listed;
      bounded = tested_more _ _ _ index engine.shifts c.args.states.now l.states _ l.yielded c.in-Some.steps c.deref.result.now
          c.deref.ensures.value c.in_ok-works.ensures.tested l.invariant.base l.invariant.bounded;
    }

pub loop-steps-preserved : goal.loop-steps-preserved
loop-steps-preserved g c =
    let index = g.StorageT.StorageIndex.index in
    let engine = c.args.self.now in
    let l = c.loop-steps in
    record {
      base = base_stays _ _ _ _ _ _ c.in_ok-works.ensures.tested ∙ l.invariant.base;
      listed = listed_more (token_by index g.LexemeT.Lexeme.parts) engine.checked.now.grammar engine.checked.now.table engine.lexemes.now index engine.shifts
          c.args.states.now.base c.args.place l.yielded l.listed.items c.push.new.self.items c.in-Some.steps c.deref.result.now _ _ l.invariant.base
          c.deref.ensures.value c.in_ok-push.ensures.items c.in_ok-works.ensures.works c.if-not-works.false l.invariant.listed;
      bounded = tested_more _ _ _ index engine.shifts c.args.states.now l.states _ l.yielded c.in-Some.steps c.deref.result.now
          c.deref.ensures.value c.in_ok-works.ensures.tested l.invariant.base l.invariant.bounded;
    }
