use Rattle.std.proofs.Common.{take}
use Rattle.lrpar_table_shared_stacks.specs.SharedStacks.{Extends}
use Rattle.lrpar_parse_lexemes.specs.Views.{token_by}
use Rattle.lrpar_parse_cpctplus.specs.RoundView.{nodes_of, plain_attempts, plain_endings}
use Rattle.lrpar_parse_cpctplus.specs.SearchRound.{AreEndingsOf}
use Rattle.lrpar_parse_cpctplus.proofs.search.Search.collect_endings.Given as goal

-- the last steps among the steps so far
abbrev pub invariant-loop-attempt : goal.invariant-loop-attempt
invariant-loop-attempt g l =
    let index = g.StorageT.StorageIndex.index in
    record {
      endings : AreEndingsOf (token_by index g.LexemeT.Lexeme.parts) l.self.point.now (nodes_of l.fn.stacks l.graph)
          (take l.attempt-index (plain_attempts index l.attempts)) (plain_endings index l.endings.items);
      extends : Extends l.fn.stacks l.stacks;
    }
