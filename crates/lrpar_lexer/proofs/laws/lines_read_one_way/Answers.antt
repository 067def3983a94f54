use Rattle.lrpar_lexer.proofs.ReadingLemmas.{reads_one_way}
use Rattle.lrpar_lexer.proofs.laws.lines_read_one_way.Goals as goal

pub returns : goal.returns
returns c = reads_one_way
