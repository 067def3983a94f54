use Rattle.std.proofs.Common.{◌≡◌, ◌<◌, ◌≤◌, Bool, arith, length, subst, sym}
use Rattle.lrpar_table_shared_stacks.specs.SharedStacks.{current_stack}
use Rattle.lrpar_table_shared_stacks.proofs.SharedStacksLemmas.{extends_then}
use Rattle.lrpar_parse_suggestions.specs.TrialView.{FeedsNow, last_place_of, place_after}
use Rattle.lrpar_parse_suggestions.proofs.TrialLemmas.{IsFedTo, after_followed, far_ends, far_more, far_stops}
use Rattle.lrpar_parse_suggestions.proofs.trial.Trials.feed_far.Goals as goal

pub returns-then-not-branch-clause-far : goal.returns-then-not-branch-clause-far
returns-then-not-branch-clause-far g c =
    let index = g.StorageT.StorageIndex.index in
    let trials = c.args.self.now in
    let l = c.feeding in
    let token = c.index-self-at.result in
    let new = c.feed.new.stacks in
    let asked = subst (λ t. FeedsNow index trials t l.stacks new c.in_ok-feed.field-0) (sym c.index-self-at.is) c.in_ok-feed.ensures.fed in
    let none = subst (λ (b : Bool). FeedsNow index trials token l.stacks new b) c.if-not-branch.true asked in
    let past : place_after index c.args.place c.args.change ≤ l.at = omega (arith, c.after-first.ensures, l.auto.at) in
    let low : l.at < last_place_of trials = omega (arith, c.feeding-test.true, c.last_place-last.ensures) in
    far_stops index trials c.args.place c.args.change l.at token l.stacks new new past low c.index-self-at.is l.invariant.fed none

pub feeding-preserved : goal.feeding-preserved
feeding-preserved g c =
    let index = g.StorageT.StorageIndex.index in
    let trials = c.args.self.now in
    let l = c.feeding in
    let token = c.index-self-at.result in
    let new = c.feed.new.stacks in
    let asked = subst (λ t. FeedsNow index trials t l.stacks new c.in_ok-feed.field-0) (sym c.index-self-at.is) c.in_ok-feed.ensures.fed in
    let fed = subst (λ (b : Bool). FeedsNow index trials token l.stacks new b) c.if-not-branch.false asked in
    let past : place_after index c.args.place c.args.change ≤ l.at = omega (arith, c.after-first.ensures, l.auto.at) in
    let low : l.at < length trials.tokens.now = omega (arith, c.feeding-test.true, c.last_place-last.ensures) in
    record {
      fed = far_more index trials c.args.place c.args.change l.at token l.stacks new past low c.index-self-at.is l.invariant.fed fed;
      stack = c.in_ok-feed.ensures.stack;
      extends = extends_then c.args.stacks.now l.stacks new l.invariant.extends c.in_ok-feed.ensures.extends;
    }

pub returns-clause-far : goal.returns-clause-far
returns-clause-far g c =
    let index = g.StorageT.StorageIndex.index in
    let trials = c.args.self.now in
    let l = c.feeding in
    let last = c.last_place-last.result in
    let followed = after_followed index trials c.args.place c.args.change c.requires.near c.requires.can in
    let past : place_after index c.args.place c.args.change ≤ last = omega (arith, followed, c.last_place-last.ensures) in
    let there : l.at ≡ last = omega (arith, c.feeding-test.false, l.auto.at, past, c.after-first.ensures) in
    let fed = subst (λ q. IsFedTo index trials c.args.place c.args.change q (current_stack l.stacks)) there l.invariant.fed in
    far_ends index trials c.args.place c.args.change last l.stacks past c.last_place-last.ensures fed
