use Rattle.std.proofs.Common.{arith}
use Rattle.lrpar_parse_cpctplus.proofs.CostLemmas.{each_costs}
use Rattle.lrpar_parse_cpctplus.proofs.cpct_plus.first_free.Goals as goal

pub returns-clause-none : goal.returns-clause-none
returns-clause-none c = λ none.
    each_costs c.args.costs.now (λ k below. c.loop-token.invariant k (omega arith)) (λ k below. omega (arith, c.type_inv.costs k))
