use Rattle.lrpar_table_stacks.specs.Expected.{tokens_of}
use Rattle.lrpar_parse_completion.proofs.NearestLemmas.{NotBefore}
use Rattle.lrpar_parse_completion.proofs.nearest.Search.first_going_on.Given as goal

-- none of the stacks so far goes on
abbrev pub invariant-loop-inserted : goal.invariant-loop-inserted
invariant-loop-inserted g l =
    let index = g.StorageT.StorageIndex.index in
    NotBefore (λ (x : g.row.LexemeT.Denot). index (g.LexemeT.Lexeme.parts x).token) l.self.point.now (tokens_of index l.self.tokens.now) l.place l.inserted
