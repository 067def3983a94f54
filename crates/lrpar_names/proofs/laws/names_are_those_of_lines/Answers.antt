use Rattle.lrpar_names.proofs.LineLemmas.{read_names_are}
use Rattle.lrpar_names.proofs.laws.names_are_those_of_lines.Goals as goal

pub returns : goal.returns
returns c = read_names_are
