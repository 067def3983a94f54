use Rattle.std.proofs.Common.{◌∙◌, ◌+◌, None, refl, subst}
use Rattle.lrpar_table_rows.specs.PlainRows.{plain_action}
use Rattle.lrpar_table_pops.specs.Closed.{StartsIn}
use Rattle.lrpar_table_pops.specs.FollowAll.{IsRightAction}
use Rattle.lrpar_table_pops.specs.StoredAll.{StartsFrom, StartsSoFar}
use Rattle.lrpar_table_pops.proofs.FoundAllLemmas.{finds_by, finds_none, finds_then}
use Rattle.lrpar_table_pops.proofs.GrowthLemmas.{read_at}
use Rattle.lrpar_table_pops.proofs.SaturateLemmas.{starts_all, starts_more, starts_none}
use Rattle.lrpar_table_pops.proofs.pops.Pops.start_all.Goals as goal

pub loop-place-init : goal.loop-place-init
loop-place-init g c =
    let index = g.StorageT.StorageIndex.index in
    let d = c.args.checked.now in
    let s = index c.args.state.0 in
    let tokens = c.actions_at.result.0.now in
    record {
      right = λ are alone found. found;
      followed = refl;
      all = λ right. finds_none d.grammar (StartsSoFar index d.grammar d.table c.args.self.now s tokens 0) c.args.found.now
          (starts_none index d.grammar d.table c.args.self.now s tokens);
    }

pub loop-place-preserved : goal.loop-place-preserved
loop-place-preserved g c =
    let index = g.StorageT.StorageIndex.index in
    let d = c.args.checked.now in
    let s = index c.args.state.0 in
    let l = c.loop-place in
    let pops = c.args.self.now in
    let tokens = c.actions_at.result.0.now in
    let token = c.index-tokens-place.result in
    let action = plain_action index c.index-actions-place.result in
    let there = read_at tokens tokens l.place token refl c.loop-place-test.true c.index-tokens-place.is in
    let acts = rw c.stable.ensures.table at (c.actions_at.ensures.actions l.place token c.index-actions-place.result c.loop-place-test.true c.index-tokens-place.is
    c.index-actions-place.is) in
    let starts = rw c.grm.ensures at c.start.ensures.all in
    let rights = rw c.grm.ensures at c.start.ensures.right in
    record {
      right = λ are alone found. rights d.table s None acts tt are alone (l.invariant.right are alone found);
      followed = c.start.ensures.followed ∙ l.invariant.followed;
      all = λ right.
          finds_then d.grammar (StartsSoFar index d.grammar d.table pops s tokens l.place) (StartsIn d.grammar pops (index token.0) action)
          (StartsSoFar index d.grammar d.table pops s tokens (l.place + 1)) c.args.found.now l.found c.start.new.found
          (starts_more index d.grammar d.table pops s tokens l.place token action there acts) (l.invariant.all right)
          (starts (subst (IsRightAction d.grammar (index token.0)) acts (right s (index token.0))));
    }

pub returns-clause-all : goal.returns-clause-all
returns-clause-all g c = λ right.
    let index = g.StorageT.StorageIndex.index in
    let d = c.args.checked.now in
    let s = index c.args.state.0 in
    let tokens = c.actions_at.result.0.now in
    let all = rw c.stable.ensures.table at c.actions_at.ensures.all in
    finds_by d.grammar (StartsSoFar index d.grammar d.table c.args.self.now s tokens c.loop-place.place) (StartsFrom d.grammar d.table c.args.self.now s) c.args.found.now
    c.loop-place.found (starts_all index d.grammar d.table c.args.self.now c.args.state tokens c.loop-place.place c.loop-place-test.false all) (c.loop-place.invariant.all right)
