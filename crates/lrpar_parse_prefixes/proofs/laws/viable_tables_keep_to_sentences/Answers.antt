use Rattle.lrpar_parse_prefixes.proofs.ViableLemmas.{viable_tables_keep_to_sentences}
use Rattle.lrpar_parse_prefixes.proofs.laws.viable_tables_keep_to_sentences.Goals as goal

pub returns : goal.returns
returns g c = record {
  keep = viable_tables_keep_to_sentences;
  facts_keep = viable_tables_keep_to_sentences;
}
