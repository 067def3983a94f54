use Rattle.lrpar_parse_cpctplus.proofs.BudgetLemmas.{shares_are_within}
use Rattle.lrpar_parse_cpctplus.proofs.laws.shares_are_within_the_total.Goals as goal

pub returns : goal.returns
returns c = shares_are_within
