use Rattle.std.proofs.Common.{◌≤◌, ◌-◌, length}
use Rattle.lrpar_parse_cpctplus.specs.RoundView.{GrowsBy}
use Rattle.lrpar_parse_cpctplus.specs.SearchRound.{IsShiftWithin}
use Rattle.lrpar_parse_cpctplus.proofs.search.Search.add_shifts.Given as goal

-- the graph has grown by the Shifts so far
abbrev pub invariant-shifts : goal.invariant-shifts
invariant-shifts g l =
    let index = g.StorageT.StorageIndex.index in
    let parts = g.LexemeT.Lexeme.parts in
    record {
      grows : GrowsBy index parts l.self l.first (IsShiftWithin l.first l.from) l.fn.stacks l.fn.graph l.stacks l.graph;
      low : l.first ≤ l.from;
      within : length l.graph.configurations.keys ≤ l.self.limit;
    }

-- each configuration is tried once
abbrev pub decreases-shifts : goal.decreases-shifts
decreases-shifts g l = l.self.limit - l.from
