use Rattle.std.proofs.Common.{List, ℕ}
use Rattle.lrpar_table_stacks.specs.Expected.{tokens_of}
use Rattle.lrpar_table_stacks.specs.Stack.{states_of}
use Rattle.lrpar_parse_completion.specs.FinderView.{HasStates}
use Rattle.lrpar_parse_completion.specs.Nearest.{FeedsAll}
use Rattle.lrpar_parse_completion.specs.Reached.{IsReached, reached_of}
use Rattle.lrpar_parse_completion.proofs.finder.Finder.finish_by.Given as goal

-- the tokens so far lead to the stack
abbrev pub invariant-more : goal.invariant-more
invariant-more g l =
    let index = g.StorageT.StorageIndex.index in
    let d = l.self.checked.now in
    record {
      states : HasStates index l.self l.stack.items;
      fed : (st : List ℕ) → IsReached d.grammar d.table st (reached_of index l.reached)
          → FeedsAll d.grammar d.table st (tokens_of index l.tokens.items) (states_of index l.stack.items);
    }
