use Rattle.std.proofs.Common.{List, ap, arith, length}
use Rattle.lrpar_parse_flat_trees.specs.Located.{Located}
use Rattle.lrpar_parse_flat_trees.proofs.WalkLemmas.{node_at, walk_end}
use Rattle.lrpar_parse_flat_trees.proofs.nodes.NodesIterator.next.Goals as goal

pub returns-then-self-clause-steps : goal.returns-then-self-clause-steps
returns-then-self-clause-steps g c =
    let end = walk_end c.self.inside.nodes.now c.self.inside.count c.self.invariant c.if-self.true in
    rw (← c.self.view_is) (end, end)

pub invariant_of-result : goal.invariant_of-result
invariant_of-result g c =
    let at = node_at c.self.inside.nodes.now c.self.inside.count c.self.invariant (omega (arith, c.if-self.false)) in
    (at.flat, at.some)

pub returns-clause-steps : goal.returns-clause-steps
returns-clause-steps g c =
    let at = node_at c.self.inside.nodes.now c.self.inside.count c.self.invariant (omega (arith, c.if-self.false)) in
    rw (← c.self.view_is) at.walked

pub returns-clause-goes : goal.returns-clause-goes
returns-clause-goes g c =
    let less = ap (λ (ls : List Located). length ls) (returns-clause-steps g c) in
    record { on = λ _. (tt, tt, omega (arith, less)); keeps = tt; rests = λ _. tt }
