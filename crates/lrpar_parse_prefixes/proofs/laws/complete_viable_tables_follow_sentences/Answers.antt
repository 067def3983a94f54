use Rattle.lrpar_parse_prefixes.proofs.ViableLemmas.{complete_viable_tables_follow_sentences}
use Rattle.lrpar_parse_prefixes.proofs.laws.complete_viable_tables_follow_sentences.Goals as goal

pub returns : goal.returns
returns g c = record {
  follow = complete_viable_tables_follow_sentences;
  facts_follow = complete_viable_tables_follow_sentences;
}
