use Rattle.lrpar_parse_cpctplus.proofs.ChainLemmas.{repairs_are_chains}
use Rattle.lrpar_parse_cpctplus.proofs.EndLemmas.{ends_have_repairs}
use Rattle.lrpar_parse_cpctplus.proofs.laws.cheapest_repairs_are_paths.Goals as goal

pub returns : goal.returns
returns g c = record { repairs = repairs_are_chains; ends = ends_have_repairs; facts_repairs = repairs_are_chains; facts_ends = ends_have_repairs }
