use Rattle.lrpar_grammar_words.proofs.StuckLemmas.{stuck_is_one}
use Rattle.lrpar_grammar_words.proofs.laws.text_is_stuck_at_one_place.Goals as goal

pub returns : goal.returns
returns c = stuck_is_one
