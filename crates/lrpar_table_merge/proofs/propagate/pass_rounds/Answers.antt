use Rattle.std.proofs.Common.{◌≡◌, arith, length, subst}
use Rattle.std.proofs.lemmas.Bool.{OnFalse_at}
use Rattle.lrpar_table_items.specs.Next.{kernel_rows}
use Rattle.lrpar_table_merge.specs.Held.{GoesBy}
use Rattle.lrpar_table_merge.specs.MergedStates.{all_transitions}
use Rattle.lrpar_table_merge.specs.Propagated.{LeadOn}
use Rattle.lrpar_table_merge.proofs.MisfitLemmas.{fault_is, stuck_back}
use Rattle.lrpar_table_merge.proofs.PassLemmas.{rows_len}
use Rattle.lrpar_table_merge.proofs.PropagateLemmas.{alike_itself, alike_on}
use Rattle.lrpar_table_merge.proofs.RoundLemmas.{held_exactly, lead_on, none_waits}
use Rattle.lrpar_table_merge.proofs.propagate.pass_rounds.Goals as goal

pub rounds-init : goal.rounds-init
rounds-init g c = record {
  sets = c.requires.sets;
  alike = alike_itself (kernel_rows g.StorageT.StorageIndex.index c.args.kernels.now);
  propagated = c.requires.propagated;
}

pub rounds-preserved : goal.rounds-preserved
rounds-preserved g c =
    let index = g.StorageT.StorageIndex.index in
    let round = c.in_ok-pass_round.ensures in record {
      sets = round.sets;
      alike =
          alike_on (kernel_rows index c.args.kernels.now) (kernel_rows index c.rounds.kernels) (kernel_rows index c.pass_round.new.kernels)
          c.rounds.invariant.alike round.propagated.alike;
      propagated = round.propagated.propagated;
    }

pub returns-in_err-pass_round-clause-stuck : goal.returns-in_err-pass_round-clause-stuck
returns-in_err-pass_round-clause-stuck g c =
    let index = g.StorageT.StorageIndex.index in
    fault_is c.from_residual.result _ c.in_err-pass_round.field-0.0 c.from_residual.ensures.1
    (λ is.
    stuck_back c.args.grm.now (all_transitions c.args.all.now) (kernel_rows index c.args.kernels.now) (kernel_rows index c.rounds.kernels)
    c.rounds.invariant.alike (c.in_err-pass_round.ensures.stuck is))

pub returns-clause-held : goal.returns-clause-held
returns-clause-held g c =
    let index = g.StorageT.StorageIndex.index in
    let grm = c.args.grm.now in
    let all = all_transitions c.args.all.now in
    let kernels = c.pass_round.new.kernels in
    let rows = kernel_rows index kernels in
    let waits = c.pass_round.new.waits in
    let last = c.in_ok-pass_round.ensures.propagated in
    let count : length waits ≡ length kernels =
    omega (arith, c.requires.waits, c.rounds.auto.kernels, c.rounds.auto.waits, c.pass_round.auto.kernels, c.pass_round.auto.waits) in
    let none = none_waits waits (length kernels) count (OnFalse_at c.if-branch.false c.in_ok-pass_round.ensures.round.1).1 in record {
      alike = alike_on (kernel_rows index c.args.kernels.now) (kernel_rows index c.rounds.kernels) rows c.rounds.invariant.alike last.alike;
      held = record { filled = last.propagated.beginnings; held = held_exactly grm all rows waits last.propagated none };
      steps = subst (LeadOn grm (GoesBy all)) (rows_len index kernels) (lead_on grm all rows waits last.propagated none);
    }
