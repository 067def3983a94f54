use Rattle.lrpar_parse_completion.proofs.AnswerLemmas.{viable_completions_repair}
use Rattle.lrpar_parse_completion.proofs.laws.completions_always_repair_over_viable_tables.Goals as goal

pub returns : goal.returns
returns g c = record { repair = viable_completions_repair; facts_repair = viable_completions_repair }
