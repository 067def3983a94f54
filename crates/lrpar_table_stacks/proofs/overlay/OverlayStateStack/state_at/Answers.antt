use Rattle.std.proofs.Common.{◌<◌, ◌∙◌, Some, ap, length, sym, subst}
use Rattle.lrpar_table_stacks.specs.Overlay.{overlaid}
use Rattle.lrpar_table_stacks.proofs.OverlayLemmas.{over_base_at, over_inside, over_tail_at}
use Rattle.lrpar_table_stacks.proofs.overlay.OverlayStateStack.state_at.Goals as goal

pub returns-then-at-self : goal.returns-then-at-self
returns-then-at-self g c =
    let index = g.StorageT.StorageIndex.index in
    let inside = c.self.inside in
    rw (← c.self.view_is)
    (over_base_at (λ x. index x.0) inside.base.now inside.tail.items inside.kept c.args.at c.index-self-at.result
    c.self.invariant.1 c.if-at-self.true c.index-self-at.is ∙ ap (λ x. Some (index x.0)) c.index-self-at.is)

pub returns-else-at-self : goal.returns-else-at-self
returns-else-at-self g c =
    let index = g.StorageT.StorageIndex.index in
    let inside = c.self.inside in
    let below = subst (λ o. c.args.at < length (overlaid o)) (sym c.self.view_is) c.requires in
    rw (← c.self.view_is)
    (over_tail_at (λ x. index x.0) inside.base.now inside.tail.items inside.kept c.args.at c.index.result.now c.self.invariant.1 c.if-at-self.false
    (over_inside (λ x. index x.0) inside.base.now inside.tail.items inside.kept c.args.at c.self.invariant.1 c.if-at-self.false below) c.index.ensures)
