use Rattle.lrpar_grammar_unmatched.proofs.TokenLawLemmas.{keeps_spans}
use Rattle.lrpar_grammar_unmatched.proofs.laws.one_more_token_keeps_spans.Goals as goal

pub returns : goal.returns
returns c = keeps_spans
