use Rattle.std.proofs.Common.{◌≡◌}
use Rattle.lrpar_parse_repair.specs.EngineView.{TestsAnswer, WorksBy}
use Rattle.lrpar_parse_repair.specs.PlainSteps.{plain_sequences}
use Rattle.lrpar_parse_repair.specs.Sequences.{AreThoseWith}
use Rattle.lrpar_parse_repair.proofs.engine.Engine.retain_working.Given as goal

-- those listed so far are the members so far that work, and the reductions so far are within what those cost
abbrev pub invariant-loop-steps : goal.invariant-loop-steps
invariant-loop-steps g l =
    let index = g.StorageT.StorageIndex.index in
    record {
      base : l.states.base ≡ l.fn.states.base;
      listed : AreThoseWith (WorksBy index g.LexemeT.Lexeme.parts l.self l.fn.states.base l.place) (plain_sequences index l.yielded) (plain_sequences index l.listed.items);
      bounded : TestsAnswer index l.self l.yielded l.fn.states l.states;
    }
