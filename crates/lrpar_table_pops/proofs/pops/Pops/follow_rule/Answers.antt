use Rattle.std.proofs.Common.{◌<◌, ◌+◌, arith, Bool, refl, subst, sym}
use Rattle.std.proofs.lemmas.Bool.{OnFalse_at}
use Rattle.std.specs.Bool.{OnFalse, OnTrue}
use Rattle.lrpar_table_pops.specs.Sets.{room_in}
use Rattle.lrpar_table_pops.proofs.ExitLemmas.{less_new, less_on}
use Rattle.lrpar_table_pops.specs.FollowAll.{AreTokensDone}
use Rattle.lrpar_table_pops.specs.FoundAll.{IsUnchanged}
use Rattle.lrpar_table_pops.proofs.FollowAllLemmas.{keeps_same, keeps_then, on_false_both, tokens_done_all, tokens_done_more, unchanged_then}
use Rattle.lrpar_table_pops.proofs.GrowthLemmas.{read_at}
use Rattle.lrpar_table_pops.proofs.pops.Pops.follow_rule.Goals.{else-follow_at, then-follow_at}
use Rattle.lrpar_table_pops.proofs.pops.Pops.follow_rule.Goals as goal

pub returns-clause-follows : goal.returns-clause-follows
returns-clause-follows g c = c.loop-place.invariant.follows

pub loop-place-preserved : goal.loop-place-preserved
loop-place-preserved g c =
    let l = c.loop-place in
    let first = room_in c.args.found.now.followed.items in
    let now = room_in l.found.followed.items in
    let next = room_in c.follow_at.new.found.followed.items in
    let act = c.actions_at.ensures.actions l.place c.index-tokens-place.result c.index-actions-place.result c.loop-place-test.true c.index-tokens-place.is
    c.index-actions-place.is in
    let index = g.StorageT.StorageIndex.index in
    let action_is = act in
    let token = c.index-tokens-place.result in
    let there = read_at c.actions_at.result.0.now c.actions_at.result.0.now l.place token refl c.loop-place-test.true c.index-tokens-place.is in
    let same : OnFalse c.if-follow_at.was_due (IsUnchanged c.args.found.now c.follow_at.new.found) = elim c.if-follow_at.branch [
      | then-follow_at w ↦ subst (λ (b : Bool). OnFalse b (IsUnchanged c.args.found.now c.follow_at.new.found)) (sym w.was_due-is) tt
      | else-follow_at w ↦
          subst (λ (b : Bool). OnFalse b (IsUnchanged c.args.found.now c.follow_at.new.found)) (sym w.was_due-is)
          (on_false_both l.was_due l.invariant.same l.invariant.same (λ before _.
          unchanged_then c.args.found.now l.found c.follow_at.new.found before (OnFalse_at w.if-follow_at.false c.follow_at.ensures.same)))
    ] in
    let done : OnFalse c.if-follow_at.was_due (AreTokensDone index c.actions_at.result.0.now (l.place + 1) c.args.rule c.args.found.now) = elim c.if-follow_at.branch [
      | then-follow_at w ↦
          subst (λ (b : Bool). OnFalse b (AreTokensDone index c.actions_at.result.0.now (l.place + 1) c.args.rule c.args.found.now)) (sym w.was_due-is) tt
      | else-follow_at w ↦
          subst (λ (b : Bool). OnFalse b (AreTokensDone index c.actions_at.result.0.now (l.place + 1) c.args.rule c.args.found.now)) (sym w.was_due-is)
          (on_false_both l.was_due l.invariant.same l.invariant.done (λ before done_before.
          tokens_done_more index c.actions_at.result.0.now l.place c.args.rule token c.args.found.now l.found there before done_before
          (OnFalse_at w.if-follow_at.false c.follow_at.ensures.done)))
    ] in
    let less : OnTrue c.if-follow_at.was_due (next < first) = elim c.if-follow_at.branch [
      | then-follow_at w ↦ less_new c.follow_at.result c.if-follow_at.was_due first now next w.if-follow_at.true l.invariant.no_more c.follow_at.ensures.less
      | else-follow_at w ↦ less_on l.was_due c.if-follow_at.was_due first now next w.was_due-is c.follow_at.ensures.no_more l.invariant.less
    ] in
    record {
      follows = λ s at goto are alone found.
          c.follow_at.ensures.follows c.args.stable.now s at act goto are alone (l.invariant.follows s at goto are alone found);
      all = λ graph s goto right.
          let act = action_is in
          keeps_then c.args.grm.now graph c.args.stable.now c.args.self.now s c.args.found.now l.found c.follow_at.new.found (l.invariant.all graph s goto right)
          (c.follow_at.ensures.all graph c.args.stable.now s act goto right);
      same = same;
      done = done;
      less = less;
      no_more = omega (arith, l.invariant.no_more, c.follow_at.ensures.no_more);
    }

pub returns-then-not-is_rule_due-clause-all : goal.returns-then-not-is_rule_due-clause-all
returns-then-not-is_rule_due-clause-all g c = λ graph s goto right. keeps_same c.args.grm.now graph c.args.stable.now c.args.self.now s c.args.found.now

pub returns-then-not-is_rule_due-clause-done : goal.returns-then-not-is_rule_due-clause-done
returns-then-not-is_rule_due-clause-done g c = λ t acts. OnFalse_at c.if-not-is_rule_due.true c.is_rule_due.ensures t

pub loop-place-init : goal.loop-place-init
loop-place-init g c = record {
  follows = λ s at goto are alone found. found;
  all = λ graph s goto right. keeps_same c.args.grm.now graph c.args.stable.now c.args.self.now s c.args.found.now;
  same = (refl, refl, refl);
  done = λ i token low at. absurd (omega (arith, low));
  less = tt;
  no_more = omega arith;
}

pub returns-clause-done : goal.returns-clause-done
returns-clause-done g c =
    on_false_both c.loop-place.was_due c.loop-place.invariant.done c.loop-place.invariant.done (λ done _.
    tokens_done_all g.StorageT.StorageIndex.index c.args.stable.now c.args.next c.actions_at.result.0.now c.loop-place.place c.args.rule c.args.found.now
    c.loop-place-test.false c.actions_at.ensures.all done)
