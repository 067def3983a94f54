use Rattle.std.proofs.Common.{◌≡◌, ◌++◌, replicate}
use Rattle.lrpar_conflict_examples.specs.declared.pieces.Waiting.TheVariants.{Tree}
use Rattle.lrpar_conflict_examples.proofs.pieces.push_trees.Given as goal

-- this number of trees is added
abbrev pub invariant-loop-i : goal.invariant-loop-i
invariant-loop-i g l = l.waiting.items ≡ l.initial.waiting.items ++ replicate l._i Tree
