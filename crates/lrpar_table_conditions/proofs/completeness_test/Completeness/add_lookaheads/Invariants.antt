use Rattle.std.proofs.Common.{◌≡◌, IsTrue, length, take}
use Rattle.lrpar_grammar.specs.Tokens.{has}
use Rattle.lrpar_table_conditions.proofs.ItemwiseLemmas.{AreAdded}
use Rattle.lrpar_table_conditions.proofs.completeness_test.Completeness.add_lookaheads.Given as goal

-- the lookaheads so far are in the set, and what was in it before; and nothing else
abbrev pub invariant-loop-token : goal.invariant-loop-token
invariant-loop-token g l =
    let index = g.StorageT.StorageIndex.index in
    (length l.set ≡ length l.fn.set)
    × AreAdded (λ x t. index x.0 ≡ t) (take l.token-index l.token-items) (λ t. IsTrue (has l.fn.set t)) (λ t. IsTrue (has l.set t))
