use Rattle.lrpar_parse_lexemes.specs.Lexemes.{facts_of}
use Rattle.lrpar_parse_repair.specs.Asked.{allowed_at}
use Rattle.lrpar_parse_precedences.proofs.RespectLemmas as trees
use Rattle.lrpar_parse_precedences.proofs.laws.repaired_trees_respect_precedences.Goals as goal

pub returns : goal.returns
returns g c =
    let facts = λ (x : g.row.LexemeT.Denot). facts_of g.StorageT.StorageIndex.index (g.LexemeT.Lexeme.parts x) in
    λ r d k. trees.repaired_trees_respect_precedences facts (allowed_at (g.R.Recoverer.allows r) d k)
