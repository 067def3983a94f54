use Rattle.lrpar_grammar.specs.Sentence.{LexemeFacts}
use Rattle.lrpar_grammar_unmatched.proofs.TokenLawLemmas.{keeps_sentences}
use Rattle.lrpar_grammar_unmatched.proofs.laws.one_more_token_keeps_sentences.Goals as goal

pub returns : goal.returns
returns g c = record { any = keeps_sentences _; facts = keeps_sentences LexemeFacts }
