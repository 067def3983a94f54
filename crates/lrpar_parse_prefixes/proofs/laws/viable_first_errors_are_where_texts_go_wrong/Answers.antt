use Rattle.lrpar_parse_lexemes.specs.Lexemes.{facts_of}
use Rattle.lrpar_parse_repair.specs.Asked.{allowed_at}
use Rattle.lrpar_parse_prefixes.proofs.FirstErrorLemmas.{viable_first_errors_are_exact, viable_first_errors_come_in_time}
use Rattle.lrpar_parse_prefixes.proofs.laws.viable_first_errors_are_where_texts_go_wrong.Goals as goal

pub returns : goal.returns
returns g c =
    let facts = λ (x : g.row.LexemeT.Denot). facts_of g.StorageT.StorageIndex.index (g.LexemeT.Lexeme.parts x) in
    record {
      in_time = λ r d k. viable_first_errors_come_in_time facts (allowed_at (g.R.Recoverer.allows r) d k);
      exact = λ r d k. viable_first_errors_are_exact facts (allowed_at (g.R.Recoverer.allows r) d k);
    }
