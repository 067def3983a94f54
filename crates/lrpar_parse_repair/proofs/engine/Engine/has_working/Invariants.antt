use Rattle.std.proofs.Common.{◌≡◌, take}
use Rattle.lrpar_parse_repair.specs.EngineView.{TestsAnswer, WorksBy}
use Rattle.lrpar_parse_repair.specs.PlainSteps.{plain_steps}
use Rattle.lrpar_parse_repair.proofs.SomeWorksLemmas.{NoneBefore}
use Rattle.lrpar_parse_repair.proofs.engine.Engine.has_working.Given as goal

-- none of the sequences so far works, and the reductions so far are within what those cost
abbrev pub invariant-loop-steps : goal.invariant-loop-steps
invariant-loop-steps g l =
    let index = g.StorageT.StorageIndex.index in
    record {
      base : l.states.base ≡ l.fn.states.base;
      none : NoneBefore (λ v. plain_steps index v.items) (WorksBy index g.LexemeT.Lexeme.parts l.self l.fn.states.base l.place) l.answer l.steps-index;
      bounded : TestsAnswer index l.self (take l.steps-index l.answer) l.fn.states l.states;
    }
