use Rattle.std.proofs.Common.{◌≤◌, ℕ, max}
use Rattle.lrpar_table_shared_stacks.specs.SharedStacks.{Extends, current_stack}
use Rattle.lrpar_table_stacks.specs.Stack.{IsStack}
use Rattle.lrpar_parse_lexemes.specs.Views.{token_by}
use Rattle.lrpar_parse_cpctplus.specs.RoundView.{ReachesBy}
use Rattle.lrpar_parse_cpctplus.specs.SearchRound.{ReachesFrom}
use Rattle.lrpar_parse_cpctplus.proofs.DistanceLemmas.{configured}
use Rattle.lrpar_parse_cpctplus.proofs.search.Search.reach.Given as goal

-- it is a stack; and as far as a parse goes on from it, it goes on from the start
abbrev pub invariant-feeding : goal.invariant-feeding
invariant-feeding g l =
    let index = g.StorageT.StorageIndex.index in
    let parts = g.LexemeT.Lexeme.parts in
    record {
      stack : IsStack l.self.point.now.checked.table (current_stack l.stacks);
      extends : Extends l.fn.stacks l.stacks;
      last : l.place ≤ max l.at.place l.place-end;
      left : (far : ℕ) → ReachesFrom (token_by index parts) l.self.point.now (configured (current_stack l.stacks) l.place) far → ReachesBy index parts l.self l.fn.stacks l.at far;
    }
