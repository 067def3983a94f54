use Rattle.lrpar_parse_cpctplus.proofs.BudgetLemmas.{listed_within_are_one}
use Rattle.lrpar_parse_cpctplus.proofs.ListingLemmas.{listed_are_one, listed_in_order}
use Rattle.lrpar_parse_cpctplus.proofs.laws.cheapest_repairs_have_one_answer.Goals as goal

pub returns : goal.returns
returns g c =
    record {
      one = listed_are_one;
      within = listed_within_are_one;
      order = listed_in_order;
      facts_one = listed_are_one;
      facts_within = listed_within_are_one;
      facts_order = listed_in_order;
    }
