use Rattle.std.proofs.Common.{◌+◌, ◌∙◌, refl, subst, inl, inr, arith}
use Rattle.lrpar_table_items.specs.Next.{kernel_rows}
use Rattle.lrpar_table_merge.specs.Propagated.{IsRoundTo}
use Rattle.lrpar_table_merge.proofs.PropagateLemmas.{alike_itself, alike_on, grown_result}
use Rattle.lrpar_table_merge.proofs.RoundLemmas.{round_more}
use Rattle.lrpar_table_merge.proofs.propagate.pass_round.Goals as goal
use Rattle.lrpar_table_merge.proofs.propagate.pass_round.Goals.{then-grown, else-grown}

pub loop-state-init : goal.loop-state-init
loop-state-init g c = record {
  sets = c.requires.sets;
  alike = alike_itself (kernel_rows g.StorageT.StorageIndex.index c.args.kernels.now);
  propagated = c.requires.propagated;
  round = (tt, (refl, λ s low. absurd (omega (arith, low))));
}

pub loop-state-preserved : goal.loop-state-preserved
loop-state-preserved g c =
    let index = g.StorageT.StorageIndex.index in
    let first = kernel_rows index c.args.kernels.now in
    let before = kernel_rows index c.loop-state.kernels in
    let after = kernel_rows index c.pass_waiting.new.kernels in
    let waits = c.pass_waiting.new.waits in
    let state = c.loop-state.state in
    let so_far = c.loop-state.invariant in
    let one = c.in_ok-more.ensures.passed in
    let grown = grown_result c.loop-state.grown c.in_ok-more.more c.if-grown.grown (elim c.if-grown.branch [
      | then-grown w ↦ inl (w.if-grown.true, w.grown-is ∙ w.if-grown.true)
      | else-grown w ↦ inr (w.if-grown.false, w.grown-is)
    ]) in record {
      sets = c.in_ok-more.ensures.sets;
      alike = alike_on first before after so_far.alike one.goes_on.alike;
      propagated = one.goes_on.propagated;
      round =
          subst (IsRoundTo first after waits (state + 1)) grown
          (round_more first before after c.loop-state.waits waits state c.loop-state.grown c.in_ok-more.more so_far.round one.ends);
    }

pub returns-clause-propagated : goal.returns-clause-propagated
returns-clause-propagated g c = record { alike = c.loop-state.invariant.alike; propagated = c.loop-state.invariant.propagated }
