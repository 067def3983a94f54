use Rattle.std.proofs.Common.{◌<◌, ◌+◌, ◌-◌, List, length}
use Rattle.std.specs.List.{AllZip}
use Rattle.lrpar_parse_run.specs.WholeRunView.{subject}
use Rattle.lrpar_parse_run.specs.RepairAnswer.{IsRepairErrorOf}
use Rattle.lrpar_parse_run.specs.RepairRun.{RepairStop}
use Rattle.lrpar_parse_run.specs.Running.{IsRunAt}
use Rattle.lrpar_parse_repair.specs.Sequences.{CanGoOn}
use Rattle.lrpar_parse_run.proofs.WholeRunLemmas.{IsThere}
use Rattle.lrpar_parse_run.proofs.whole_run.WholeRun.over.Given as goal

-- the run is at a place, after the error points of these errors; after an error the number of lexemes that must follow a repair can be
-- fed from there
abbrev pub invariant-stops : goal.invariant-stops
invariant-stops g l =
    let index = g.StorageT.StorageIndex.index in
    let parts = g.LexerTypesT.LexemeT.Lexeme.parts in
    let about = subject index parts g.R.Recoverer.allows l.self in
    let builds = g.B.Build.builds l.self.run.build.now in
    let d = l.self.run.checked.now in
    let lexemes = l.self.lexemes.now in
    record {
      here : IsRunAt index parts g.B.Build.builds l.self.run lexemes l.stack l.place;
      there : (stops : List RepairStop) × IsThere about builds lexemes l.stack l.place stops × AllZip (IsRepairErrorOf about lexemes) stops l.errors.items;
      on : 0 < length l.errors.items → CanGoOn (λ x. (about.facts x).token) d.grammar d.table lexemes l.self.shifts l.stack.states l.place;
    }

-- how far it is to the end, and one more before the first error
abbrev pub decreases-stops : goal.decreases-stops
decreases-stops g l = length l.self.lexemes.now - l.place + (1 - length l.errors.items)
