use Rattle.lrpar_parse_lexemes.specs.Lexemes.{facts_of}
use Rattle.lrpar_parse_repair.specs.Asked.{allowed_at}
use Rattle.lrpar_parse_stops.proofs.StopLemmas.{stops_at_error_states}
use Rattle.lrpar_parse_stops.proofs.laws.parses_stop_at_error_states.Goals as goal

pub returns : goal.returns
returns g c =
    let facts = λ (x : g.row.LexemeT.Denot). facts_of g.StorageT.StorageIndex.index (g.LexemeT.Lexeme.parts x) in
    λ r d k. stops_at_error_states facts (allowed_at (g.R.Recoverer.allows r) d k)
