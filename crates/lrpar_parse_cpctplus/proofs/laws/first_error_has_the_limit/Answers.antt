use Rattle.lrpar_parse_cpctplus.proofs.BudgetLemmas.{listed_at_first_error, listed_without_total}
use Rattle.lrpar_parse_cpctplus.proofs.laws.first_error_has_the_limit.Goals as goal

pub returns : goal.returns
returns g c = record { first = listed_at_first_error; without = listed_without_total; facts_first = listed_at_first_error; facts_without = listed_without_total }
