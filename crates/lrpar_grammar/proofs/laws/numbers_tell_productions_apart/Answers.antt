use Rattle.lrpar_grammar.proofs.SpelledLawLemmas.{numbers_tell_apart}
use Rattle.lrpar_grammar.proofs.laws.numbers_tell_productions_apart.Goals as goal

pub returns : goal.returns
returns c = numbers_tell_apart
