use Rattle.lrpar_lexer.proofs.LexingLawLemmas.{lexes_one_way}
use Rattle.lrpar_lexer.proofs.laws.texts_are_lexed_one_way.Goals as goal

pub returns : goal.returns
returns c = lexes_one_way
