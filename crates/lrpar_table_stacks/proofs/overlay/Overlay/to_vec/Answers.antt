use Rattle.std.proofs.Common.{◌≡◌, ◌++◌, ◌∙◌, ap, arith, take}
use Rattle.std.proofs.lemmas.Grind.{common_steps}
use Rattle.lrpar_table_stacks.proofs.OverlayLemmas.{over_list}
use Rattle.lrpar_table_stacks.proofs.overlay.Overlay.to_vec.Goals as goal

pub returns : goal.returns
returns g c =
    let index = g.StorageT.StorageIndex.index in
    let inside = c.self.inside in
    let first : c.extend_from_slice.new.self.items ≡ take inside.kept inside.base.now =
    c.in_ok-extend_from_slice.ensures.items ∙ grind (arith, common_steps, c.in_ok-states.ensures.items) in
    let states : c.extend_from_slice-2.new.self.items ≡ c.extend_from_slice.new.self.items ++ inside.tail.items =
    c.in_ok-extend_from_slice-2.ensures.items ∙ ap (λ xs. c.extend_from_slice.new.self.items ++ xs) c.deref.ensures.value in
    rw (← c.self.view_is) (over_list (λ x. index x.0) inside.base.now inside.tail.items _ _ inside.kept first states)
