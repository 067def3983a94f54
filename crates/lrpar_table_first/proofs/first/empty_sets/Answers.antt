use Rattle.lrpar_grammar_places.proofs.FaultLemmas.{no_value}
use Rattle.std.proofs.Common.{ap, ◌+◌, ◌∙◌}
use Rattle.lrpar_table_first.proofs.RowLemmas.{empty_added}
use Rattle.lrpar_table_first.proofs.first.empty_sets.Goals as goal

pub loop-preserved : goal.loop-preserved
loop-preserved g c =
    empty_added c.loop.sets.items c.push.new.self.items c.in_ok-new.field-0 c.loop.counter _ c.in_ok-push.ensures.items c.loop.invariant.0 c.loop.invariant.1 c.loop.invariant.2
    (c.in_ok-new.ensures.room ∙ ap (λ n. n + 1) c.tokens_len.ensures.len) c.in_ok-new.ensures.none

pub returns-in_err-sets : goal.returns-in_err-sets
returns-in_err-sets g c =
    let reported = c.from_residual.ensures.1 in
    record { room = no_value c.from_residual.result _ _ reported; none = no_value c.from_residual.result _ _ reported }

pub returns-in_err-new : goal.returns-in_err-new
returns-in_err-new g c =
    let reported = c.from_residual-in_err-new.ensures.1 in
    record { room = no_value c.from_residual-in_err-new.result _ _ reported; none = no_value c.from_residual-in_err-new.result _ _ reported }

pub returns-in_err-push : goal.returns-in_err-push
returns-in_err-push g c =
    let reported = c.from_residual-in_err-push.ensures.1 in
    record { room = no_value c.from_residual-in_err-push.result _ _ reported; none = no_value c.from_residual-in_err-push.result _ _ reported }
