use Rattle.std.proofs.Common.{sym, subst, inl, inr, List}
use Rattle.std.proofs.lemmas.Result.{on_ok_weaker}
use Rattle.lrpar_table_items.specs.Next.{kernel_rows}
use Rattle.lrpar_table_merge.specs.Held.{GoesBy}
use Rattle.lrpar_table_merge.specs.MergedStates.{all_transitions}
use Rattle.lrpar_table_merge.specs.Propagated.{ArePropagated}
use Rattle.lrpar_table_merge.proofs.MisfitLemmas.{fault_is, fault_weaker, no_start_back, stuck_back}
use Rattle.lrpar_table_merge.proofs.PropagateLemmas.{alike_on}
use Rattle.lrpar_table_merge.proofs.RoundLemmas.{propagated_begun}
use Rattle.lrpar_table_merge.proofs.propagate.propagate.Goals as goal

pub begin-requires-clause-cores : goal.begin-requires-clause-cores
begin-requires-clause-cores g c = c.clear_kernels.ensures.kept c.args.grm.now c.requires.cores

pub returns-clause-held : goal.returns-clause-held
returns-clause-held g c =
    let rows = λ (kernels : List _). kernel_rows g.StorageT.StorageIndex.index kernels in
    let start = c.in_ok-waits.ensures.alike in
    let first = alike_on (rows c.args.kernels.now) (rows c.clear_kernels.new.kernels) (rows c.begin.new.kernels) c.clear_kernels.ensures.same start in
    on_ok_weaker c.pass_rounds.result
    (λ done. record {
      alike = alike_on (rows c.args.kernels.now) (rows c.begin.new.kernels) (rows c.pass_rounds.new.kernels) first done.alike;
      held = done.held;
      steps = done.steps;
    }) c.pass_rounds.ensures.held

pub returns-in_err-waits-clause-fault : goal.returns-in_err-waits-clause-fault
returns-in_err-waits-clause-fault g c =
    let rows = λ (kernels : List _). kernel_rows g.StorageT.StorageIndex.index kernels in
    fault_is c.from_residual.result _ c.in_err-waits.field-0.0 c.from_residual.ensures.1
    (λ is.
    inl (no_start_back c.args.grm.now (rows c.args.kernels.now) (rows c.clear_kernels.new.kernels) c.clear_kernels.ensures.same
    (c.in_err-waits.ensures.misfit is)))

pub returns-clause-fault : goal.returns-clause-fault
returns-clause-fault g c =
    let rows = λ (kernels : List _). kernel_rows g.StorageT.StorageIndex.index kernels in
    let start = c.in_ok-waits.ensures.alike in
    let first = alike_on (rows c.args.kernels.now) (rows c.clear_kernels.new.kernels) (rows c.begin.new.kernels) c.clear_kernels.ensures.same start in
    fault_weaker c.pass_rounds.result _ _
    (λ fault stuck is.
    inr (stuck_back c.args.grm.now (all_transitions c.args.all.now) (rows c.args.kernels.now) (rows c.begin.new.kernels) first (stuck is)))
    c.pass_rounds.ensures.stuck

pub pass_rounds-requires-clause-propagated : goal.pass_rounds-requires-clause-propagated
pass_rounds-requires-clause-propagated g c =
    let grm = c.args.grm.now in
    let goes = GoesBy (all_transitions c.args.all.now) in
    let kernels = kernel_rows g.StorageT.StorageIndex.index c.begin.new.kernels in
    subst (ArePropagated grm goes kernels) (sym c.deref_mut.ensures.value)
    (propagated_begun grm goes kernels c.in_ok-waits.waits.items c.in_ok-waits.ensures.begun)
