use Rattle.std.proofs.Common.{◌∙◌, ◌+◌, ap, arith, length, refl}
use Rattle.std.proofs.lemmas.List.{length_push}
use Rattle.std.proofs.lemmas.List.Elements.{All-nil}
use Rattle.lrpar_table_rows.proofs.RunLemmas.{empty_more, empty_runs}
use Rattle.lrpar_table_rows.proofs.runs.no_runs.Goals as goal

pub loop-init : goal.loop-init
loop-init g c = (rw c.in_ok-runs.ensures.items refl, rw c.in_ok-runs.ensures.items (All-nil _))

pub loop-preserved : goal.loop-preserved
loop-preserved g c = (
  ap (λ xs. length xs) c.in_ok-push.ensures.items ∙ length_push c.loop.runs.items c.new.result ∙ ap (λ n. n + 1) c.loop.invariant.0,
  rw c.in_ok-push.ensures.items (empty_more c.loop.runs.items c.new.result c.loop.invariant.1 c.new.ensures.items),
)

pub returns-clause-paired : goal.returns-clause-paired
returns-clause-paired g c = omega (arith, c.loop.invariant.0, c.loop-test.false, c.loop.auto.index-end)

pub returns-clause-none : goal.returns-clause-none
returns-clause-none g c = empty_runs c.args.cores.now c.loop.runs.items c.loop.invariant.1
