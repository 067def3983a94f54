use Rattle.std.proofs.Common.{◌≤◌, length, take}
use Rattle.lrpar_parse_cpctplus.specs.RoundView.{GrowsBy, plain_attempts}
use Rattle.lrpar_parse_cpctplus.specs.SearchRound.{IsAmong}
use Rattle.lrpar_parse_cpctplus.proofs.search.Search.add_reached.Given as goal

-- the graph has grown by the steps so far
abbrev pub invariant-loop-attempt : goal.invariant-loop-attempt
invariant-loop-attempt g l =
    let index = g.StorageT.StorageIndex.index in
    let parts = g.LexemeT.Lexeme.parts in
    record {
      grows : GrowsBy index parts l.self l.first (IsAmong (take l.attempt-index (plain_attempts index l.attempts))) l.fn.stacks l.fn.graph l.stacks l.graph;
      within : length l.graph.configurations.keys ≤ l.self.limit;
    }
