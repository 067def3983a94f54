use Rattle.lrpar_grammar_yacc.proofs.OwnLemmas.{are_own_erasures}
use Rattle.lrpar_grammar_yacc.proofs.laws.grammar_texts_are_their_own_erasures.Goals as goal

pub returns : goal.returns
returns c = are_own_erasures
