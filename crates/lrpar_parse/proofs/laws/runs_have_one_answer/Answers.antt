use Rattle.lrpar_table_stacks.proofs.RunLemmas.{runs_one_way, runs_end_one_way}
use Rattle.lrpar_parse.proofs.laws.runs_have_one_answer.Goals as goal

pub returns : goal.returns
returns g c = record { ways = runs_one_way; ends = runs_end_one_way; facts_ways = runs_one_way; facts_ends = runs_end_one_way }
