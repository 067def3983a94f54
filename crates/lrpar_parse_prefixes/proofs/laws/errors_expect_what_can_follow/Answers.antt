use Rattle.lrpar_parse_lexemes.specs.Lexemes.{facts_of}
use Rattle.lrpar_parse_repair.specs.Asked.{allowed_at}
use Rattle.lrpar_parse_prefixes.proofs.ErrorStateLemmas.{error_states_follow_sentences, error_states_keep_to_sentences}
use Rattle.lrpar_parse_prefixes.proofs.laws.errors_expect_what_can_follow.Goals as goal

pub returns : goal.returns
returns g c =
    let facts = λ (x : g.row.LexemeT.Denot). facts_of g.StorageT.StorageIndex.index (g.LexemeT.Lexeme.parts x) in
    record {
      keep = λ r d k. error_states_keep_to_sentences facts (allowed_at (g.R.Recoverer.allows r) d k);
      follow = λ r d k. error_states_follow_sentences facts (allowed_at (g.R.Recoverer.allows r) d k);
    }
