use Rattle.std.proofs.Common.{◌≤◌, ◌-◌, ◌↔◌, length}
use Rattle.lrpar_table_stacks.specs.Stack.{IsStack}
use Rattle.lrpar_parse_repair.specs.Moves.{IsMovedWithin}
use Rattle.lrpar_parse_repair.specs.Sequences.{CanGoOn}
use Rattle.lrpar_parse_repair.proofs.engine.Engine.can_go_on.Given as goal

-- what is left to be fed from here can be, if and only if all could be from the start
abbrev pub invariant-lexemes : goal.invariant-lexemes
invariant-lexemes g l =
    let token = λ (x : g.row.LexemeT.Denot). g.StorageT.StorageIndex.index (g.LexemeT.Lexeme.parts x).token in
    let d = l.self.checked.now in
    let kind = g.S.StateStack in
    let goes_on = CanGoOn token d.grammar d.table l.self.lexemes.now in
    record {
      stack : IsStack d.table (kind.states l.stack);
      within : l.at ≤ length l.self.lexemes.now;
      moved : IsMovedWithin kind.states kind.reduces g.S.ShiftStack.shifts d.grammar d.table d.cap l.counter l.fn.stack l.stack;
      left : goes_on (l.self.shifts - l.counter) (kind.states l.stack) l.at ↔ goes_on l.self.shifts (kind.states l.fn.stack) l.fn.place;
    }
