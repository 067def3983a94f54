use Rattle.lrpar_parse_prefixes.proofs.ErrorStateLemmas.{complete_built_actions_follow_sentences}
use Rattle.lrpar_parse_prefixes.proofs.laws.complete_actions_follow_sentences.Goals as goal

pub returns : goal.returns
returns g c = record {
  follow = complete_built_actions_follow_sentences;
  facts_follow = complete_built_actions_follow_sentences;
}
