use Rattle.std.proofs.Common.{◌≡◌, ◌-◌, ◌+◌, ◌∙◌, ℕ, List, ap, arith, length}
use Rattle.lrpar_grammar_places.specs.Span.{nowhere}
use Rattle.lrpar_parse_run.specs.RunStack.{on_top}
use Rattle.lrpar_parse_flat_trees.specs.Flat.{trees_of}
use Rattle.lrpar_parse_flat_trees.specs.Located.{Located, side_by_side}
use Rattle.lrpar_parse_flat_trees.proofs.ChildrenLemmas.{next_left}
use Rattle.lrpar_parse_flat_trees.proofs.children.ChildrenIterator.next.Goals as goal

pub returns-clause-steps : goal.returns-clause-steps
returns-clause-steps g c =
    let nodes = c.self.inside.nodes.now in
    let left = c.self.inside.left in
    let some : left ≡ (left - 1) + 1 = omega (arith, c.if-self-eq0.false) in
    rw (← c.self.view_is)
    (ap (λ (n : ℕ). on_top n (side_by_side nowhere (trees_of nodes))) some
    ∙ next_left (left - 1) nodes c.below-nodes.result.now c.self.invariant.0 (omega (arith, some, c.self.invariant.1)) c.below-nodes.ensures)

pub returns-clause-goes : goal.returns-clause-goes
returns-clause-goes g c =
    let less = ap (λ (ls : List Located). length ls) (returns-clause-steps g c) in
    record { on = λ _. (tt, tt, omega (arith, less)); keeps = tt; rests = λ _. tt }
