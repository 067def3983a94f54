use Rattle.lrpar_table_stacks.specs.Expected.{tokens_of}
use Rattle.lrpar_parse_completion.proofs.NearestLemmas.{NoneNearer}
use Rattle.lrpar_parse_completion.proofs.nearest.Search.nearest.Given as goal

-- the parse goes on at no place so far
abbrev pub invariant-loop-place : goal.invariant-loop-place
invariant-loop-place g l =
    let index = g.StorageT.StorageIndex.index in
    NoneNearer (λ (x : g.row.LexemeT.Denot). index (g.LexemeT.Lexeme.parts x).token) l.self.point.now (tokens_of index l.self.tokens.now) l.self.most l.place
