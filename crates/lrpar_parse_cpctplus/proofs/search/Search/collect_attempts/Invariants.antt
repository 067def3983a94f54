use Rattle.std.proofs.Common.{◌≡◌, [], length, take}
use Rattle.lrpar_parse_lexemes.specs.Views.{token_by}
use Rattle.lrpar_parse_cpctplus.specs.RoundView.{nodes_of, plain_attempts}
use Rattle.lrpar_parse_cpctplus.specs.SearchRound.{Adds}
use Rattle.lrpar_parse_cpctplus.proofs.AddLemmas.{IsAttemptFor}
use Rattle.lrpar_parse_cpctplus.proofs.search.Search.collect_attempts.Given as goal

-- those of the costs so far are listed
abbrev pub invariant-loop-weight : goal.invariant-loop-weight
invariant-loop-weight g l =
    let index = g.StorageT.StorageIndex.index in
    record {
      adds : Adds (IsAttemptFor (token_by index g.LexemeT.Lexeme.parts) l.self.terms.now.costs l.self.point.now (nodes_of l.fn.stacks l.graph) l.graph.firsts.items
          (length l.graph.firsts.items) (take l.weight-index l.weights))
          [] (plain_attempts index l.attempts.items);
      stacks : l.stacks.stacks ≡ l.fn.stacks.stacks;
    }
