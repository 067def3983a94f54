use Rattle.std.proofs.Common.{◌<◌, ◌+◌, ℕ, Bool, List, arith, length, rules, subst, sym}
use Rattle.lrpar_table_shared_stacks.specs.SharedStacks.{current_stack}
use Rattle.lrpar_parse_suggestions.specs.TrialView.{AreNumberedBefore, FeedsBefore, FeedsNow}
use Rattle.lrpar_parse_suggestions.proofs.NumberLemmas.{before_more, none_numbered, numbered_kept, numbers_stop, start_stack, starts, stops_before}
use Rattle.lrpar_parse_suggestions.proofs.trial.Trials.number_stacks.Goals as goal

pub places-init : goal.places-init
places-init g c =
    let index = g.StorageT.StorageIndex.index in
    let trials = c.args.self.now in
    let stacks = c.args.stacks.now in
    record {
      fed = starts index trials (current_stack stacks) c.requires.start;
      stack = start_stack index trials (current_stack stacks) c.requires.start;
      numbered = subst (λ (items : List ℕ). AreNumberedBefore index trials stacks 0 items) (sym c.new-numbers.ensures.items) (none_numbered index trials stacks);
    }

pub offset_bounds-self-at : goal.offset_bounds-self-at
offset_bounds-self-at g c =
    let within : c.places.at < length c.args.self.now.tokens.now = omega (arith, c.places-test.true, c.requires.within) in
    search rules

pub returns-then-not-branch : goal.returns-then-not-branch
returns-then-not-branch g c =
    let index = g.StorageT.StorageIndex.index in
    let trials = c.args.self.now in
    let l = c.places in
    let token = c.index-self-at.result in
    let mid = c.add_number.new.stacks in
    let new = c.feed.new.stacks in
    let asked = subst (λ t. FeedsNow index trials t mid new c.in_ok-feed.field-0) (sym c.index-self-at.is) c.in_ok-feed.ensures.fed in
    let none = subst (λ (b : Bool). FeedsNow index trials token mid new b) c.if-not-branch.true asked in
    let fed = subst (FeedsBefore index trials l.at) (sym c.in_ok-add_number.ensures.current) l.invariant.fed in
    let low : l.at < trials.place = omega (arith, c.places-test.true) in
    let inside : l.at < length trials.tokens.now = omega (arith, low, c.requires.within) in
    record {
      numbers = numbers_stop index trials mid new l.at c.add_number.new.numbers.items low c.requires.within c.in_ok-feed.ensures.extends
          c.in_ok-add_number.ensures.numbered (stops_before index trials l.at token mid new inside c.index-self-at.is fed none);
    }

pub places-preserved : goal.places-preserved
places-preserved g c =
    let index = g.StorageT.StorageIndex.index in
    let trials = c.args.self.now in
    let l = c.places in
    let token = c.index-self-at.result in
    let mid = c.add_number.new.stacks in
    let new = c.feed.new.stacks in
    let asked = subst (λ t. FeedsNow index trials t mid new c.in_ok-feed.field-0) (sym c.index-self-at.is) c.in_ok-feed.ensures.fed in
    let feeds = subst (λ (b : Bool). FeedsNow index trials token mid new b) c.if-not-branch.false asked in
    let fed = subst (FeedsBefore index trials l.at) (sym c.in_ok-add_number.ensures.current) l.invariant.fed in
    let inside : l.at < length trials.tokens.now = omega (arith, c.places-test.true, c.requires.within) in
    record {
      fed = before_more index trials l.at token mid new inside c.index-self-at.is fed feeds;
      stack = c.in_ok-feed.ensures.stack;
      numbered = numbered_kept index trials mid new c.in_ok-feed.ensures.extends (l.at + 1) c.add_number.new.numbers.items c.in_ok-add_number.ensures.numbered;
    }
