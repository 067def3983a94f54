use Rattle.std.proofs.Common.{◌≡◌, ◌<◌, ◌+◌, ◌-◌, ℕ, [], arith, get_or, length, subst, sym}
use Rattle.std.proofs.lemmas.Option.{slice_get-get_or}
use Rattle.lrpar_parse_suggestions.specs.TrialView.{HasTokensBefore, ListsFrom, first_place_of}
use Rattle.lrpar_parse_suggestions.proofs.AddLemmas.{all_places, none_past}
use Rattle.lrpar_parse_suggestions.proofs.NumberLemmas.{kept}
use Rattle.lrpar_parse_suggestions.proofs.StackLemmas.{extends_none}
use Rattle.lrpar_parse_suggestions.proofs.trial.Trials.add_all.Goals as goal

pub places-init : goal.places-init
places-init g c =
    let index = g.StorageT.StorageIndex.index in
    let trials = c.args.self.now in
    let numbers = c.args.numbers.now in
    let first = c.first_place-first.result in
    let none = none_past index trials c.args.stacks.now numbers c.requires.numbers in
    let here = subst (λ (n : ℕ). ListsFrom index trials (n + length numbers) []) (sym c.first_place-first.ensures) none in
    record {
      few = omega arith;
      listed = subst (ListsFrom index trials (first + length numbers)) (sym c.requires.empty) here;
      extends = extends_none c.args.stacks.now;
    }

pub add_changes-requires-clause-before : goal.add_changes-requires-clause-before
add_changes-requires-clause-before g c =
    let index = g.StorageT.StorageIndex.index in
    let trials = c.args.self.now in
    let numbers = c.args.numbers.now in
    let l = c.places in
    let i = l.left - 1 in
    let number = get_or numbers i 0 in
    let few = l.invariant.few in
    let low : i < length numbers = omega (arith, c.places-test.true, few) in
    let held = c.requires.numbers.each i number (slice_get-get_or numbers i 0 low) in
    let there = kept index trials c.args.stacks.now l.stacks l.invariant.extends (first_place_of trials + i) number held in
    subst (λ (n : ℕ). HasTokensBefore index trials l.stacks (n + i) number) (sym c.first_place-first.ensures) there

pub returns : goal.returns
returns g c =
    let index = g.StorageT.StorageIndex.index in
    let trials = c.args.self.now in
    let l = c.places in
    let last : c.first_place-first.result + l.left ≡ first_place_of trials = omega (arith, c.places-test.false, c.first_place-first.ensures) in
    all_places index trials l.suggestions.items (subst (λ (n : ℕ). ListsFrom index trials n l.suggestions.items) last l.invariant.listed)
