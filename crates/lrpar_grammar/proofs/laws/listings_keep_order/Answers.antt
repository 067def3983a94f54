use Rattle.lrpar_grammar.proofs.SpelledLawLemmas.{listings_keep_order}
use Rattle.lrpar_grammar.proofs.laws.listings_keep_order.Goals as goal

pub returns : goal.returns
returns c = listings_keep_order
