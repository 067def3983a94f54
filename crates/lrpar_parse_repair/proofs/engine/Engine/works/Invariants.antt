use Rattle.std.proofs.Common.{◌≤◌, ◌↔◌, drop, length}
use Rattle.lrpar_table_stacks.specs.Stack.{IsStack}
use Rattle.lrpar_parse_repair.specs.Moves.{IsMovedWithin}
use Rattle.lrpar_parse_repair.specs.PlainSteps.{plain_steps}
use Rattle.lrpar_parse_repair.specs.Sequences.{Works}
use Rattle.lrpar_parse_repair.proofs.engine.Engine.works.Given as goal

-- the steps that are left work from here, if and only if all do from the start
abbrev pub invariant-loop-step : goal.invariant-loop-step
invariant-loop-step g l =
    let index = g.StorageT.StorageIndex.index in
    let token = λ (x : g.row.LexemeT.Denot). index (g.LexemeT.Lexeme.parts x).token in
    let d = l.self.checked.now in
    let kind = g.S.StateStack in
    let works = Works token d.grammar d.table l.self.lexemes.now l.self.shifts in
    record {
      stack : IsStack d.table (kind.states l.stack);
      within : l.at ≤ length l.self.lexemes.now;
      moved : IsMovedWithin kind.states kind.reduces g.S.ShiftStack.shifts d.grammar d.table d.cap l.step-index l.fn.stack l.stack;
      left : works (kind.states l.stack) l.at (plain_steps index (drop l.step-index l.steps)) ↔ works (kind.states l.fn.stack) l.fn.place (plain_steps index l.steps);
    }
