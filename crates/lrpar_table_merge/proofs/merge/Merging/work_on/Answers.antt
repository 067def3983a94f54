use Rattle.std.proofs.Common.{arith}
use Rattle.std.proofs.lemmas.Bool.{OnFalse_at, OnTrue_at}
use Rattle.lrpar_table_merge.proofs.merge.Merging.work_on.Goals as goal

pub returns-then-not-stop_waiting-clause-turn : goal.returns-then-not-stop_waiting-clause-turn
returns-then-not-stop_waiting-clause-turn g c = (tt, OnFalse_at c.if-not-stop_waiting.true c.stop_waiting.ensures.turn.1)

pub merge_successors-requires-clause-number : goal.merge_successors-requires-clause-number
merge_successors-requires-clause-number g c = omega (arith, c.requires.number, c.stop_waiting.ensures.len)

pub set_transitions-requires : goal.set_transitions-requires
set_transitions-requires g c = record { merging = c.in_ok-transitions.ensures.goes_on.merging }

pub returns-clause-merging : goal.returns-clause-merging
returns-clause-merging g c = c.set_transitions.ensures.merging

pub returns-clause-turn : goal.returns-clause-turn
returns-clause-turn g c = (
  (let less = OnTrue_at c.if-not-stop_waiting.false c.stop_waiting.ensures.turn.0 in
      let merged = c.in_ok-transitions.ensures.goes_on.work in
      let set = c.set_transitions.ensures.work in omega (arith, less, merged, set)),
  tt,
)
