use Rattle.lrpar_table_check.specs.ExpectedRuns.{FeedsFront}
use Rattle.lrpar_table_stacks.specs.Stack.{IsStack, states_of}
use Rattle.lrpar_parse_lexemes.specs.Views.{token_by}
use Rattle.lrpar_parse.proofs.expected.feed_all.Given as goal

-- the lexemes so far are fed, which gives the stack
abbrev pub invariant-loop-place : goal.invariant-loop-place
invariant-loop-place g l =
    let index = g.StorageT.StorageIndex.index in
    record {
      stack : IsStack l.checked.table (states_of index l.stack.items);
      fed : FeedsFront (token_by index g.LexemeT.Lexeme.parts) l.checked.grammar l.checked.table l.lexemes l.place (states_of index l.stack.items);
    }
