use Rattle.lrpar_parse_completion.proofs.AnswerLemmas.{completions_repair}
use Rattle.lrpar_parse_completion.proofs.laws.completions_always_repair.Goals as goal

pub returns : goal.returns
returns g c = record { repair = completions_repair; facts_repair = completions_repair }
