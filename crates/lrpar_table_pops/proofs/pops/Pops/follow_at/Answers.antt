use Rattle.std.proofs.Common.{ap, subst, sym, ℕ}
use Rattle.std.proofs.lemmas.Bool.{OnFalse_at}
use Rattle.std.specs.Prelude.{IsTrue}
use Rattle.std.proofs.lemmas.Bool.{OnTrue_at}
use Rattle.lrpar_grammar.specs.Tokens.{has}
use Rattle.lrpar_table_pops.specs.Sets.{tokens_by}
use Rattle.lrpar_table_pops.specs.Sets.{RuleTokens}
use Rattle.lrpar_table_pops.proofs.StepLemmas.{follow_leads, goto_leads}
use Rattle.lrpar_table_rows.specs.Table.{TableAction}
use Rattle.lrpar_table_pops.specs.Closed.{FollowsIn}
use Rattle.lrpar_table_pops.specs.FollowAll.{IsRightAction}
use Rattle.lrpar_table_pops.specs.FoundAll.{FindsAll, FollowsOnly, IsDone}
use Rattle.lrpar_table_pops.proofs.FollowAllLemmas.{followed_keeps, unchanged_keeps}
use Rattle.lrpar_table_pops.proofs.pops.Pops.follow_at.Goals as goal

pub returns-clause-follows : goal.returns-clause-follows
returns-clause-follows g c = λ table s at action goto are alone found.
    let index = g.StorageT.StorageIndex.index in
    let due = OnTrue_at c.if-not-is_due.false c.is_due.ensures.due in
    let here : IsTrue (has (tokens_by c.args.found.now.reduced.items c.args.rule) (index c.args.token.0)) =
    subst (λ (t : ℕ). IsTrue (has (tokens_by c.args.found.now.reduced.items c.args.rule) t)) c.from.ensures due in
    let before = follow_leads c.args.grm.now table s at c.args.found.now c.is_due.new.self c.is_due.ensures.kept.0 c.is_due.ensures.kept.1 found in
    c.follow_action.ensures.follows table s at action
    (λ q pops. goto_leads c.args.grm.now table s at c.args.rule (index c.args.token.0) (index c.args.next.0)
    (found.by_reductions c.args.rule (index c.args.token.0) here) goto q pops) are alone before

pub returns-then-not-is_due-clause-all : goal.returns-then-not-is_due-clause-all
returns-then-not-is_due-clause-all g c = λ graph table s action goto right.
    unchanged_keeps c.args.grm.now graph table c.args.self.now s c.args.found.now c.is_due.new.self (OnFalse_at c.if-not-is_due.true c.is_due.ensures.same)

pub returns-then-not-is_due-clause-done : goal.returns-then-not-is_due-clause-done
returns-then-not-is_due-clause-done g c =
    subst (IsDone c.args.found.now c.args.rule) c.from.ensures (OnFalse_at c.if-not-is_due.true c.is_due.ensures.not_due)

pub returns-clause-all : goal.returns-clause-all
returns-clause-all g c = λ graph table s action goto right.
    let index = g.StorageT.StorageIndex.index in
    let gr = c.args.grm.now in
    let next = index c.args.next.0 in
    let t = index c.args.token.0 in
    let old = c.args.found.now in
    let now = c.is_due.new.self in
    let new = c.follow_action.new.found in
    let right_here : IsRightAction gr t _ = subst (IsRightAction gr t) action (right next t) in
    followed_keeps gr graph table c.args.self.now s c.args.rule next t old now new right goto c.is_due.ensures.kept.0
    (ap (λ (v : RuleTokens). v.items) c.is_due.ensures.kept.1) c.is_due.ensures.grows.room
    (subst (λ (u : ℕ). FollowsOnly c.args.rule u old now) c.from.ensures c.is_due.ensures.only)
    (ap (λ (v : RuleTokens). v.items) c.follow_action.ensures.followed)
    (subst (λ (a : TableAction). FindsAll gr (FollowsIn gr c.args.self.now next t a) now new) (sym action) (c.follow_action.ensures.all right_here))
