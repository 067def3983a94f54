use Rattle.lrpar_parse_prefixes.proofs.ViableLemmas.{built_tables_keep_to_sentences}
use Rattle.lrpar_parse_prefixes.proofs.laws.built_tables_keep_to_sentences.Goals as goal

pub returns : goal.returns
returns g c = record {
  keep = built_tables_keep_to_sentences;
  facts_keep = built_tables_keep_to_sentences;
}
