use Rattle.lrpar_parse_prefixes.proofs.TokenLemmas.{sentences_are_of_tokens}
use Rattle.lrpar_parse_prefixes.proofs.laws.sentences_are_of_tokens.Goals as goal

pub returns : goal.returns
returns g c = record {
  tokens = sentences_are_of_tokens;
  facts_tokens = sentences_are_of_tokens;
}
