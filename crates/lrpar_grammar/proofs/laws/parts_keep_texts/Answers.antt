use Rattle.lrpar_grammar.proofs.SpelledPartsLemmas.{parts_keep_texts}
use Rattle.lrpar_grammar.proofs.laws.parts_keep_texts.Goals as goal

pub returns : goal.returns
returns c = parts_keep_texts
