use Rattle.std.proofs.Common.{◌≡◌, drop}
use Rattle.lrpar_lexer.specs.RuleTrees.{branch_to}
use Rattle.lrpar_lexer.proofs.rule_tree.branch_to.Given as goal

-- no branch so far has the byte
abbrev pub invariant-branches : goal.invariant-branches
invariant-branches l = branch_to l.branches l.byte ≡ branch_to (drop l.branch-index l.branches) l.byte
