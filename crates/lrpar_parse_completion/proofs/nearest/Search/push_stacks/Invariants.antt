use Rattle.lrpar_table_stacks.specs.Expected.{tokens_of}
use Rattle.lrpar_table_stacks.specs.Stack.{states_of}
use Rattle.lrpar_parse_completion.specs.Trying.{stacks_of}
use Rattle.lrpar_parse_completion.proofs.NearestLemmas.{Trying}
use Rattle.lrpar_parse_completion.proofs.nearest.Search.push_stacks.Given as goal

-- the stacks before this one, and this one
abbrev pub invariant-tokens : goal.invariant-tokens
invariant-tokens g l =
    let index = g.StorageT.StorageIndex.index in
    let at = l.self.point.now in
    Trying at.checked.grammar at.checked.table at.stack (tokens_of index l.self.tokens.now) (stacks_of index l.stacks.items)
    (states_of index l.stack.items) l.token-index
