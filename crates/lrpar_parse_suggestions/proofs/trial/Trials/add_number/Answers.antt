use Rattle.std.proofs.Common.{◌≤◌, ◌+◌, ℕ, List, arith, subst, sym}
use Rattle.lrpar_parse_suggestions.specs.TrialView.{AreNumberedBefore, first_place_of}
use Rattle.lrpar_parse_suggestions.proofs.NumberLemmas.{numbered_more}
use Rattle.lrpar_parse_suggestions.proofs.trial.Trials.add_number.Goals as goal

pub returns-clause-numbered : goal.returns-clause-numbered
returns-clause-numbered g c =
    let index = g.StorageT.StorageIndex.index in
    let trials = c.args.self.now in
    let new = c.number.new.self in
    let tried : first_place_of trials ≤ c.args.place = omega (arith, c.if-place-first_place.false, c.first_place.ensures) in
    let more =
    numbered_more index trials c.args.stacks.now new c.args.place c.in_ok-number.number c.args.numbers.now.items tried c.in_ok-number.ensures.extends
    c.in_ok-number.ensures.number c.requires.stack c.requires.fed c.requires.numbered in
    subst (λ (items : List ℕ). AreNumberedBefore index trials new (c.args.place + 1) items) (sym c.in_ok-push.ensures.items) more
