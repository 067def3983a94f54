use Rattle.std.proofs.Common.{sym, subst}
use Rattle.lrpar_lexer.specs.RuleTrees.{AreMet}
use Rattle.lrpar_lexer.proofs.matching.Matchers.new.Goals as goal

pub invariant_of-result : goal.invariant_of-result
invariant_of-result g c = record { met = subst (AreMet c.in_ok-tree.tree.nodes.items) (sym c.in_ok-matchers.ensures) c.in_ok-tree.ensures }
