use Rattle.std.proofs.Common.{length, take}
use Rattle.lrpar_table_stacks.specs.Expected.{tokens_of}
use Rattle.lrpar_table_stacks.specs.Stack.{IsStack, states_of}
use Rattle.lrpar_parse_completion.specs.Nearest.{FeedsAll}
use Rattle.lrpar_parse_completion.proofs.NearestLemmas.{NotBefore}
use Rattle.lrpar_parse_completion.proofs.nearest.Search.feed_to_end.Given as goal

-- the stack after the tokens so far; after fewer of them the parse can't go on
abbrev pub invariant-tokens : goal.invariant-tokens
invariant-tokens g l =
    let index = g.StorageT.StorageIndex.index in
    let at = l.self.point.now in
    let tokens = tokens_of index l.self.tokens.now in
    record {
      fed : FeedsAll at.checked.grammar at.checked.table at.stack (take l.inserted tokens) (states_of index l.stack.items);
      stack : IsStack at.checked.table (states_of index l.stack.items);
      before : NotBefore (λ (x : g.row.LexemeT.Denot). index (g.LexemeT.Lexeme.parts x).token) at tokens (length at.lexemes) l.inserted;
    }
