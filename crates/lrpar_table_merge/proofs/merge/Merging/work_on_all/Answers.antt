use Rattle.std.proofs.Common.{◌∙◌, inl, inr, arith}
use Rattle.lrpar_table_merge.proofs.PropagateLemmas.{grown_result}
use Rattle.lrpar_table_merge.proofs.WorkLemmas.{pass_ends, pass_more, pass_none}
use Rattle.lrpar_table_merge.proofs.merge.Merging.work_on_all.Goals as goal
use Rattle.lrpar_table_merge.proofs.merge.Merging.work_on_all.Goals.{then-waited, else-waited}

pub states-init : goal.states-init
states-init g c = record {
  sets = c.requires.sets;
  merging = c.requires.merging;
  pass = pass_none g.StorageT.StorageIndex.index c.args.grm.now c.args.max_states c.args.self.now.states.items;
}

pub states-preserved : goal.states-preserved
states-preserved g c =
    let index = g.StorageT.StorageIndex.index in
    let so_far = c.states.invariant in
    let waited = grown_result c.states.waited c.in_ok-worked.worked c.if-waited.waited (elim c.if-waited.branch [
      | then-waited w ↦ inl (w.if-waited.true, w.waited-is ∙ w.if-waited.true)
      | else-waited w ↦ inr (w.if-waited.false, w.waited-is)
    ]) in record {
      sets = c.in_ok-worked.ensures.sets;
      merging = c.in_ok-worked.ensures.merging;
      pass =
          pass_more index c.args.grm.now c.args.max_states c.args.self.now.states.items c.states.self.states.items c.work_on.new.self.states.items c.states.number c.states.waited
          c.in_ok-worked.worked c.if-waited.waited waited so_far.pass c.in_ok-worked.ensures.turn;
    }

pub states-smaller : goal.states-smaller
states-smaller g c = let room = c.states.invariant.merging.room in omega (arith, c.states-test.true, c.len.ensures, room)

pub returns-clause-waited : goal.returns-clause-waited
returns-clause-waited g c =
    let pass = c.states.invariant.pass in (
      pass.less,
      pass_ends g.StorageT.StorageIndex.index c.args.grm.now c.args.max_states c.args.self.now.states.items c.states.self.states.items c.states.number c.states.waited
          (omega (arith, c.states-test.false, c.len.ensures)) pass,
    )
