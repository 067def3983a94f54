use Rattle.lrpar_grammar_words.proofs.AheadLemmas.{outlines_are_of_texts}
use Rattle.lrpar_grammar_words.proofs.laws.outlines_are_of_grammar_texts.Goals as goal

pub returns : goal.returns
returns c = outlines_are_of_texts
