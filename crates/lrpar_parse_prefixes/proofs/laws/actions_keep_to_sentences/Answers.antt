use Rattle.lrpar_parse_prefixes.proofs.ErrorStateLemmas.{built_actions_keep_to_sentences}
use Rattle.lrpar_parse_prefixes.proofs.laws.actions_keep_to_sentences.Goals as goal

pub returns : goal.returns
returns g c = record {
  keep = built_actions_keep_to_sentences;
  facts_keep = built_actions_keep_to_sentences;
}
