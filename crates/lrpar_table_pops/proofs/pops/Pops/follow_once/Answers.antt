use Rattle.std.proofs.Common.{◌≡◌, ◌<◌, ◌+◌, ℕ, Bool, Some, arith, refl, subst, sym}
use Rattle.std.proofs.lemmas.Bool.{OnFalse_at}
use Rattle.std.specs.Bool.{OnFalse, OnTrue}
use Rattle.lrpar_table_rows.specs.Table.{goto_of}
use Rattle.lrpar_table_pops.specs.Sets.{room_in}
use Rattle.lrpar_table_pops.proofs.ExitLemmas.{less_new, less_on}
use Rattle.lrpar_table_pops.specs.FollowAll.{AreRulesDone, IsRuleDone}
use Rattle.lrpar_table_pops.specs.FoundAll.{IsUnchanged}
use Rattle.lrpar_table_pops.proofs.FollowAllLemmas.{keeps_same, keeps_then, on_false_both, rules_done_all, rules_done_more, unchanged_then}
use Rattle.lrpar_table_pops.proofs.GrowthLemmas.{read_at}
use Rattle.lrpar_table_pops.proofs.pops.Pops.follow_once.Goals.{else-follow_rule, then-follow_rule}
use Rattle.lrpar_table_pops.proofs.pops.Pops.follow_once.Goals as goal

pub loop-place-preserved : goal.loop-place-preserved
loop-place-preserved g c =
    let index = g.StorageT.StorageIndex.index in
    let l = c.loop-place in
    let s = index c.args.state.0 in
    let n = index c.index-nexts-place.result.0 in
    let table = c.args.checked.now.table in
    let first = room_in c.args.found.now.followed.items in
    let now = room_in l.found.followed.items in
    let next = room_in c.follow_rule.new.found.followed.items in
    let stored = rw c.stable-stable.ensures.table at (c.gotos_at.ensures.gotos l.place c.index-rules-place.result c.index-nexts-place.result c.loop-place-test.true
    c.index-rules-place.is c.index-nexts-place.is) in
    let goto : goto_of table s c.from.result ≡ Some n = subst (λ (r : ℕ). goto_of table s r ≡ Some n) (sym c.from.ensures) stored in
    let follows = rw c.grm-grm.ensures at (rw c.stable-stable.ensures.table at c.follow_rule.ensures.follows) in
    let gr = c.args.checked.now.grammar in
    let new = c.follow_rule.new.found in
    let rule = c.index-rules-place.result in
    let rules = c.gotos_at.result.0.now in
    let all = rw c.grm-grm.ensures at (rw c.stable-stable.ensures.table at c.follow_rule.ensures.all) in
    let done_here = rw c.stable-stable.ensures.table at c.follow_rule.ensures.done in
    let there = read_at rules rules l.place rule refl c.loop-place-test.true c.index-rules-place.is in
    let same : OnFalse c.if-follow_rule.was_due (IsUnchanged c.args.found.now new) = elim c.if-follow_rule.branch [
      | then-follow_rule w ↦ subst (λ (b : Bool). OnFalse b (IsUnchanged c.args.found.now new)) (sym w.was_due-is) tt
      | else-follow_rule w ↦
          subst (λ (b : Bool). OnFalse b (IsUnchanged c.args.found.now new)) (sym w.was_due-is)
          (on_false_both l.was_due l.invariant.same l.invariant.same (λ before _.
          unchanged_then c.args.found.now l.found new before (OnFalse_at w.if-follow_rule.false c.follow_rule.ensures.same)))
    ] in
    let done : OnFalse c.if-follow_rule.was_due (AreRulesDone index table s rules (l.place + 1) c.args.found.now) = elim c.if-follow_rule.branch [
      | then-follow_rule w ↦ subst (λ (b : Bool). OnFalse b (AreRulesDone index table s rules (l.place + 1) c.args.found.now)) (sym w.was_due-is) tt
      | else-follow_rule w ↦
          subst (λ (b : Bool). OnFalse b (AreRulesDone index table s rules (l.place + 1) c.args.found.now)) (sym w.was_due-is)
          (on_false_both l.was_due l.invariant.same l.invariant.done (λ before done_before.
          rules_done_more index table s rules l.place rule c.index-nexts-place.result c.args.found.now l.found there stored before done_before
          (subst (λ (r : ℕ). IsRuleDone index table r c.index-nexts-place.result l.found) c.from.ensures (OnFalse_at w.if-follow_rule.false done_here))))
    ] in
    let less : OnTrue c.if-follow_rule.was_due (next < first) = elim c.if-follow_rule.branch [
      | then-follow_rule w ↦ less_new c.follow_rule.result c.if-follow_rule.was_due first now next w.if-follow_rule.true l.invariant.no_more c.follow_rule.ensures.less
      | else-follow_rule w ↦ less_on l.was_due c.if-follow_rule.was_due first now next w.was_due-is c.follow_rule.ensures.no_more l.invariant.less
    ] in
    record {
      follows = λ at are alone found. follows s at goto are alone (l.invariant.follows at are alone found);
      all = λ graph right.
          keeps_then gr graph table c.args.self.now s c.args.found.now l.found new (l.invariant.all graph right) (all graph s goto right);
      same = same;
      done = done;
      less = less;
      no_more = omega (arith, l.invariant.no_more, c.follow_rule.ensures.no_more);
    }

pub returns : goal.returns
returns g c =
    let index = g.StorageT.StorageIndex.index in
    let l = c.loop-place in
    record {
      follows = l.invariant.follows;
      all = l.invariant.all;
      done = on_false_both l.was_due l.invariant.done l.invariant.done (λ done _.
          rules_done_all index c.args.checked.now.table c.args.state c.gotos_at.result.0.now l.place c.args.found.now c.loop-place-test.false
          (rw c.stable-stable.ensures.table at c.gotos_at.ensures.all) done);
      same = l.invariant.same;
      less = l.invariant.less;
    }

pub loop-place-init : goal.loop-place-init
loop-place-init g c = record {
  follows = λ at are alone found. found;
  all = λ graph right. keeps_same c.args.checked.now.grammar graph c.args.checked.now.table c.args.self.now _ c.args.found.now;
  same = (refl, refl, refl);
  done = λ i rule next t low at goto acts. absurd (omega (arith, low));
  less = tt;
  no_more = omega arith;
}
