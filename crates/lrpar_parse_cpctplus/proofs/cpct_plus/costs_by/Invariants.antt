use Rattle.lrpar_parse_cpctplus.specs.Said.{AreSaid, said_by}
use Rattle.lrpar_parse_cpctplus.proofs.cpct_plus.costs_by.Given as goal

-- the list has the costs of the tokens so far
abbrev pub invariant-loop-number : goal.invariant-loop-number
invariant-loop-number g l = AreSaid (said_by g.StorageT.StorageIndex.index (λ token cost. g.F.Fn.post l.cost (token, tt) cost)) l.number l.costs.items
