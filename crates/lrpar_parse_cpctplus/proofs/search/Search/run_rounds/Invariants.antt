use Rattle.std.proofs.Common.{◌≤◌, ◌+◌, ◌-◌, ◌*◌, length}
use Rattle.lrpar_parse_lexemes.specs.Views.{token_by}
use Rattle.lrpar_parse_cpctplus.specs.RoundView.{IsRoundBy, nodes_of}
use Rattle.lrpar_parse_cpctplus.proofs.ResultLemmas.{AreBehind}
use Rattle.lrpar_parse_cpctplus.proofs.search.Search.run_rounds.Given as goal

-- the head of a round, with as many rounds before it that have added nothing
abbrev pub invariant-rounds : goal.invariant-rounds
invariant-rounds g l =
    let index = g.StorageT.StorageIndex.index in
    let parts = g.LexemeT.Lexeme.parts in
    record {
      round : IsRoundBy index parts l.self l.stacks l.graph;
      behind : AreBehind (token_by index parts) l.self.terms.now.costs l.self.point.now (nodes_of l.stacks l.graph) (length l.graph.firsts.items) l.empty;
      within : length l.graph.configurations.keys ≤ l.limit;
      few : l.empty ≤ 255;
    }

-- what may still be added, and then the rounds that may add nothing
abbrev pub decreases-rounds : goal.decreases-rounds
decreases-rounds g l = 256 * (l.limit - length l.graph.configurations.keys) + (255 - l.empty)
