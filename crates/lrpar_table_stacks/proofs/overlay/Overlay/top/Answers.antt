use Rattle.std.proofs.Common.{◌∙◌, ap, Some}
use Rattle.lrpar_table_stacks.specs.Stack.{states_of}
use Rattle.lrpar_table_stacks.proofs.OverlayLemmas.{top_of_base, top_of_tail}
use Rattle.lrpar_table_stacks.proofs.overlay.Overlay.top.Goals as goal

pub returns-in-Some : goal.returns-in-Some
returns-in-Some g c =
    let index = g.StorageT.StorageIndex.index in
    let inside = c.self.inside in
    rw (← c.self.view_is)
    (top_of_tail (λ x. index x.0) (states_of index inside.base.now) inside.kept inside.tail.items c.in-Some.top.now
    (rw c.deref.ensures.value at c.in-Some.ensures.value))

pub returns-in-None : goal.returns-in-None
returns-in-None g c =
    let index = g.StorageT.StorageIndex.index in
    let inside = c.self.inside in
    rw (← c.self.view_is)
    (top_of_base (λ x. index x.0) inside.base.now inside.tail.items inside.kept c.index-self-self.result c.self.invariant.0 c.self.invariant.1
    c.index-self-self.is (rw c.deref.ensures.value at c.in-None.ensures.value) ∙ ap (λ x. Some (index x.0)) c.index-self-self.is)
