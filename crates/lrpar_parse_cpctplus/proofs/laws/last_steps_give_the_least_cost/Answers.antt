use Rattle.lrpar_parse_cpctplus.proofs.LastStepLemmas.{last_steps_are_links, least_cost_by_last_steps}
use Rattle.lrpar_parse_cpctplus.proofs.laws.last_steps_give_the_least_cost.Goals as goal

pub returns : goal.returns
returns g c = record { least = least_cost_by_last_steps; links = last_steps_are_links; facts_least = least_cost_by_last_steps; facts_links = last_steps_are_links }
