use Rattle.std.proofs.Common.{refl}
use Rattle.lrpar_parse.proofs.laws.spans_are_worked_out.Goals as goal

pub returns : goal.returns
returns c = record { after_lexeme = refl; of_empty = refl; of_nothing = refl; of_inner = refl; of_whole = refl }
