use Rattle.std.proofs.lemmas.Bool.{OnFalse_at}
use Rattle.lrpar_table_pops.proofs.FollowAllLemmas.{all_done_on, keeps_same, keeps_then}
use Rattle.lrpar_table_pops.proofs.pops.Pops.follow.Goals as goal

pub passes-init : goal.passes-init
passes-init g c = record {
  follows = λ at are alone found. found;
  all = λ graph right. keeps_same c.args.checked.now.grammar graph c.args.checked.now.table c.args.self.now _ c.args.found.now;
}

pub passes-preserved : goal.passes-preserved
passes-preserved g c =
    let d = c.args.checked.now in
    record {
      follows = λ at are alone found. c.follow_once.ensures.follows at are alone (c.passes.invariant.follows at are alone found);
      all = λ graph right.
          keeps_then d.grammar graph d.table c.args.self.now (g.StorageT.StorageIndex.index c.args.state.0) c.args.found.now c.passes.found c.follow_once.new.found
          (c.passes.invariant.all graph right) (c.follow_once.ensures.all graph right);
    }

pub returns : goal.returns
returns g c =
    let d = c.args.checked.now in
    let s = g.StorageT.StorageIndex.index c.args.state.0 in
    record {
      follows = λ at are alone found. c.follow_once.ensures.follows at are alone (c.passes.invariant.follows at are alone found);
      all = λ graph right.
          keeps_then d.grammar graph d.table c.args.self.now s c.args.found.now c.passes.found c.follow_once.new.found
          (c.passes.invariant.all graph right) (c.follow_once.ensures.all graph right);
      done = all_done_on d.table s c.passes.found c.follow_once.new.found (OnFalse_at c.passes-test.false c.follow_once.ensures.same)
          (OnFalse_at c.passes-test.false c.follow_once.ensures.done);
    }
