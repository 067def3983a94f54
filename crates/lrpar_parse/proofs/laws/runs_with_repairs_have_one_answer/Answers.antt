use Rattle.lrpar_parse_lexemes.specs.Lexemes.{facts_of}
use Rattle.lrpar_parse_repair.specs.Asked.{allowed_at}
use Rattle.lrpar_parse.proofs.RepairWayLemmas.{repair_runs_one_way}
use Rattle.lrpar_parse.proofs.laws.runs_with_repairs_have_one_answer.Goals as goal

pub returns : goal.returns
returns g c =
    let facts = λ (x : g.row.LexemeT.Denot). facts_of g.StorageT.StorageIndex.index (g.LexemeT.Lexeme.parts x) in
    λ r d k. repair_runs_one_way facts (allowed_at (g.R.Recoverer.allows r) d k)
