use Rattle.std.proofs.Common.{◌≡◌, ◌+◌, ◌∷◌, [], arith, drop, length, take}
use Rattle.std.proofs.lemmas.List.{take_all}
use Rattle.lrpar_parse_lexemes.specs.Views.{facts_by}
use Rattle.lrpar_parse_repair.specs.PlainSteps.{plain_step, plain_steps}
use Rattle.lrpar_parse_run.proofs.MovesLemmas.{replay_left, replayed_none, replayed_then}
use Rattle.lrpar_parse_repair.proofs.SequenceLemmas.{steps_left, steps_so_far}
use Rattle.lrpar_parse_run.proofs.run.Run.replay.Goals as goal

pub loop-step-init : goal.loop-step-init
loop-step-init g c =
    let facts = facts_by g.StorageT.StorageIndex.index g.LexemeT.Lexeme.parts in
    let d = c.args.self.now.checked.now in
    let builds = g.B.Build.builds c.args.self.now.build.now in
    record {
      there = c.requires.there;
      done = replayed_none facts builds d c.args.lexemes.now c.args.stack.now c.args.place;
      left = c.requires.works;
    }

pub step-requires-clause-works : goal.step-requires-clause-works
step-requires-clause-works g c =
    let index = g.StorageT.StorageIndex.index in
    let l = c.loop-step in
    let here = steps_left index c.args.steps.now l.step-index c.step-item.result c.loop-step-test.true c.step-item.is in
    let r = (rw here at l.invariant.left).3 in
    (r.0, r.1, r.2, r.4)

pub loop-step-preserved : goal.loop-step-preserved
loop-step-preserved g c =
    let index = g.StorageT.StorageIndex.index in
    let facts = facts_by index g.LexemeT.Lexeme.parts in
    let d = c.args.self.now.checked.now in
    let builds = g.B.Build.builds c.args.self.now.build.now in
    let lexemes = c.args.lexemes.now in
    let steps = c.args.steps.now in
    let l = c.loop-step in
    let step = c.step-item.result in
    let here = steps_left index steps l.step-index step c.loop-step-test.true c.step-item.is in
    let more = steps_so_far index steps l.step-index step c.loop-step-test.true c.step-item.is in
    let left = rw here at l.invariant.left in
    let by = c.in_ok-at.ensures.replayed in
    let rest = replay_left facts builds d lexemes l.stack c.step.new.stack l.at _ (plain_step index step)
    (plain_steps index (drop (l.step-index + 1) steps)) left.0 left.1 left.2 by left.3 in
    record {
      there = c.in_ok-at.ensures.there;
      done = rw more
          (replayed_then facts builds d lexemes c.args.stack.now l.stack c.step.new.stack c.args.place l.at _
          (plain_steps index (take l.step-index steps)) (plain_step index step ∷ []) l.invariant.done by);
      left = (rest.0, left.1, left.2, rest.1);
    }

pub returns : goal.returns
returns g c =
    let l = c.loop-step in
    let steps = c.args.steps.now in
    let last : length steps ≡ l.step-index = omega (arith, c.loop-step-test.false, l.auto.step-index-end) in
    let all : take l.step-index steps ≡ steps = take_all l.step-index steps (omega (arith, last)) in
    record { there = l.invariant.there; replayed = rw all at l.invariant.done }
