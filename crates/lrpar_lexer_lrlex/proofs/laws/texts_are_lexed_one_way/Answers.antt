use Rattle.lrpar_lexer_lrlex.proofs.OneWayLemmas.{lexes_in_one_way}
use Rattle.lrpar_lexer_lrlex.proofs.laws.texts_are_lexed_one_way.Goals as goal

pub returns : goal.returns
returns c = lexes_in_one_way
