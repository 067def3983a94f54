use Rattle.std.proofs.Common.{◌<◌, ℕ}
use Rattle.lrpar_table_sentences.specs.Reachable.{HasTree, IsReachableRule}
use Rattle.lrpar_table_sentences.proofs.reachable.first_unproductive.Given as goal

-- each reachable rule so far has a tree
abbrev pub invariant-loop-rule : goal.invariant-loop-rule
invariant-loop-rule g l = (r : ℕ) → r < l.rule → IsReachableRule l.grm r → HasTree l.grm r
