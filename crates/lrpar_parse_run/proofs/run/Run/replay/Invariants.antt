use Rattle.std.proofs.Common.{drop, take}
use Rattle.lrpar_parse_lexemes.specs.Views.{facts_by}
use Rattle.lrpar_parse_run.specs.Moves.{IsReplayed}
use Rattle.lrpar_parse_run.specs.Running.{CanReplayBy, IsRunAt}
use Rattle.lrpar_parse_repair.specs.PlainSteps.{plain_steps}
use Rattle.lrpar_parse_run.proofs.run.Run.replay.Given as goal

-- the steps so far are replayed, and those that are left can be
abbrev pub invariant-loop-step : goal.invariant-loop-step
invariant-loop-step g l =
    let index = g.StorageT.StorageIndex.index in
    let parts = g.LexemeT.Lexeme.parts in
    let builds = g.B.Build.builds in
    record {
      there : IsRunAt index parts builds l.self l.lexemes l.stack l.at;
      done : IsReplayed (facts_by index parts) (builds l.self.build.now) l.self.checked.now l.lexemes l.fn.stack l.fn.place (plain_steps index (take l.step-index l.steps)) l.stack l.at;
      left : CanReplayBy index parts l.self l.lexemes l.stack.states l.at (drop l.step-index l.steps);
    }
