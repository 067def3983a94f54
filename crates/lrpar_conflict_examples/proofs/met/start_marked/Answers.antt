use Rattle.std.proofs.Common.{◌∙◌, ap, arith, refl, false, true, replicate, set, Bool, List}
use Rattle.lrpar_conflict_examples.proofs.MetLemmas.{start_marks}
use Rattle.lrpar_conflict_examples.proofs.met.start_marked.Goals as goal

pub returns : goal.returns
returns g c =
    let r = c.from.result in
    let low = c.start_state.ensures.within in
    let start = c.start_state.ensures.start in
    let none = c.in_ok-marks.ensures.items_if_clones_equal (λ y same. same) ∙ ap (λ n. replicate n false) c.states_len.ensures.states in
    start_marks c.args.stable.now _ r _ refl (c.from.ensures ∙ start) (omega (arith, low, start, c.from.ensures)) (ap (λ (xs : List Bool). set xs r true) none)
