use Rattle.lrpar_parse_repair.proofs.TestWorkLemmas.{bounds_tests}
use Rattle.lrpar_parse.proofs.laws.tests_of_sequences_are_bounded.Goals as goal

pub returns : goal.returns
returns g c = record { tests = bounds_tests; facts_tests = bounds_tests }
