use Rattle.lrpar_parse_completion.proofs.FinishLemmas.{table_completions_repair}
use Rattle.lrpar_parse_completion.proofs.laws.table_completions_always_repair.Goals as goal

pub returns : goal.returns
returns g c = record { repair = table_completions_repair; facts_repair = table_completions_repair }
