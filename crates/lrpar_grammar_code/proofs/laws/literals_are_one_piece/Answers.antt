use Rattle.lrpar_grammar_code.proofs.LiteralLemmas.{literals_are_one_piece}
use Rattle.lrpar_grammar_code.proofs.laws.literals_are_one_piece.Goals as goal

pub returns : goal.returns
returns c = literals_are_one_piece
