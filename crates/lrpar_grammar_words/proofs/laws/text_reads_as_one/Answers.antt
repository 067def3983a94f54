use Rattle.lrpar_grammar_words.proofs.WordsLemmas.{reads_as_one}
use Rattle.lrpar_grammar_words.proofs.laws.text_reads_as_one.Goals as goal

pub returns : goal.returns
returns c = reads_as_one
