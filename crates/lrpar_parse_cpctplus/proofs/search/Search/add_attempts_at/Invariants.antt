use Rattle.std.proofs.Common.{◌≡◌, length}
use Rattle.lrpar_parse_lexemes.specs.Views.{token_by}
use Rattle.lrpar_parse_cpctplus.specs.Levels.{first_of}
use Rattle.lrpar_parse_cpctplus.specs.RoundView.{nodes_of, plain_attempts}
use Rattle.lrpar_parse_cpctplus.specs.SearchRound.{Adds, IsAttemptWithin}
use Rattle.lrpar_parse_cpctplus.proofs.search.Search.add_attempts_at.Given as goal

-- those from the configurations so far are added
abbrev pub invariant-loop-from : goal.invariant-loop-from
invariant-loop-from g l =
    let index = g.StorageT.StorageIndex.index in
    let nodes = nodes_of l.fn.stacks l.graph in
    record {
      adds : Adds (IsAttemptWithin (token_by index g.LexemeT.Lexeme.parts) l.self.terms.now.costs l.self.point.now nodes
          (first_of l.graph.firsts.items (length nodes) l.distance) l.from l.weight)
          (plain_attempts index l.fn.attempts.items) (plain_attempts index l.attempts.items);
      stacks : l.stacks.stacks ≡ l.fn.stacks.stacks;
    }
