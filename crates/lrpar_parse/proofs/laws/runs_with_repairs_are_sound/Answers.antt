use Rattle.lrpar_parse_lexemes.specs.Lexemes.{facts_of}
use Rattle.lrpar_parse_repair.specs.Asked.{allowed_at}
use Rattle.lrpar_parse.proofs.RepairRunLemmas.{accepts_where_repaired, lists_sound, stops_lie_apart}
use Rattle.lrpar_parse.proofs.StopStackLemmas.{stops_at_stacks, stops_by_failing}
use Rattle.lrpar_parse.proofs.laws.runs_with_repairs_are_sound.Goals as goal

pub returns : goal.returns
returns g c =
    let facts = λ (x : g.row.LexemeT.Denot). facts_of g.StorageT.StorageIndex.index (g.LexemeT.Lexeme.parts x) in
    record {
      sound = λ r d k. lists_sound facts (allowed_at (g.R.Recoverer.allows r) d k);
      apart = λ r d k. stops_lie_apart facts (allowed_at (g.R.Recoverer.allows r) d k);
      accepts = λ r d k. accepts_where_repaired facts (allowed_at (g.R.Recoverer.allows r) d k);
      stacks = λ r d k. stops_at_stacks facts (allowed_at (g.R.Recoverer.allows r) d k);
      fails = λ r d k. stops_by_failing facts (allowed_at (g.R.Recoverer.allows r) d k);
    }
