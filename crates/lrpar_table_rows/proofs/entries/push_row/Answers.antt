use Rattle.std.proofs.lemmas.List.{take_all}
use Rattle.lrpar_table_rows.proofs.CutLemmas.{appended_more}
use Rattle.lrpar_grammar_places.proofs.FaultLemmas.{nothing_done}
use Rattle.lrpar_table_rows.proofs.entries.push_row.Goals as goal

pub loop-key-preserved : goal.loop-key-preserved
loop-key-preserved g c =
    let item = c.loop-key-item.result in
    rw (c.in_ok-push.ensures.items, c.in_ok-push-2.ensures.items)
    (appended_more c.loop-key.keys.items c.args.keys.now.items c.loop-key.values.items c.args.values.now.items c.args.row.now
    c.loop-key.key-index item.0 item.1 c.loop-key.invariant c.loop-key-test.true c.loop-key-item.is)

pub returns-clause-entries : goal.returns-clause-entries
returns-clause-entries g c =
    rw (take_all c.loop-key.key-index c.args.row.now c.loop-key-test.false) at c.loop-key.invariant.entries

pub returns-in_err-push-clause-values : goal.returns-in_err-push-clause-values
returns-in_err-push-clause-values g c = nothing_done c.from_residual.result _ _ c.from_residual.ensures.1

pub returns-in_err-push-clause-len : goal.returns-in_err-push-clause-len
returns-in_err-push-clause-len g c = nothing_done c.from_residual.result _ _ c.from_residual.ensures.1

pub returns-in_err-push-clause-entries : goal.returns-in_err-push-clause-entries
returns-in_err-push-clause-entries g c = nothing_done c.from_residual.result _ _ c.from_residual.ensures.1

pub returns-in_err-push-2-clause-values : goal.returns-in_err-push-2-clause-values
returns-in_err-push-2-clause-values g c = nothing_done c.from_residual-in_err-push-2.result _ _ c.from_residual-in_err-push-2.ensures.1

pub returns-in_err-push-2-clause-len : goal.returns-in_err-push-2-clause-len
returns-in_err-push-2-clause-len g c = nothing_done c.from_residual-in_err-push-2.result _ _ c.from_residual-in_err-push-2.ensures.1

pub returns-in_err-push-2-clause-entries : goal.returns-in_err-push-2-clause-entries
returns-in_err-push-2-clause-entries g c = nothing_done c.from_residual-in_err-push-2.result _ _ c.from_residual-in_err-push-2.ensures.1
