use Rattle.lrpar_grammar_words.proofs.OutlineLemmas.{outline_is_one}
use Rattle.lrpar_grammar_words.proofs.laws.text_has_one_outline.Goals as goal

pub returns : goal.returns
returns c = outline_is_one
