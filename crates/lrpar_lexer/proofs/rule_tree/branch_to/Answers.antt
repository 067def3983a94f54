use Rattle.std.proofs.Common.{sym, ◌∙◌}
use Rattle.lrpar_lexer.proofs.RuleTreeLemmas.{branch_end, branch_here, branch_past}
use Rattle.lrpar_lexer.proofs.rule_tree.branch_to.Goals as goal

pub branches-preserved : goal.branches-preserved
branches-preserved c =
    c.branches.invariant
    ∙ branch_past c.args.branches.now c.branches.branch-index c.args.byte (record { byte = 0; node = 0 }) c.branches-test.true c.if-branch-byte.false

pub returns-then-branch-byte : goal.returns-then-branch-byte
returns-then-branch-byte c =
    sym (c.branches.invariant
    ∙ branch_here c.args.branches.now c.branches.branch-index c.args.byte (record { byte = 0; node = 0 }) c.branches-test.true c.if-branch-byte.true)

pub returns : goal.returns
returns c = sym (c.branches.invariant ∙ branch_end c.args.branches.now c.branches.branch-index c.args.byte c.branches-test.false)
