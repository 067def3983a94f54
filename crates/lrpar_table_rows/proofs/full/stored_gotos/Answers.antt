use Rattle.std.proofs.Common.{◌≤◌, length, map}
use Rattle.std.proofs.lemmas.List.{take_all}
use Rattle.lrpar_grammar_places.proofs.ListLemmas.{follows_more}
use Rattle.lrpar_table_rows.specs.PlainRows.{goto_entry, plain_goto}
use Rattle.lrpar_table_rows.specs.Rows.{row_gotos}
use Rattle.lrpar_grammar_places.proofs.FaultLemmas.{no_value}
use Rattle.lrpar_table_rows.proofs.TestLemmas.{all_read}
use Rattle.lrpar_table_rows.proofs.full.stored_gotos.Goals as goal

pub row_stored_gotos-requires : goal.row_stored_gotos-requires
row_stored_gotos-requires g c =
    rw c.deref.ensures.value
    (all_read (λ row. length row.items ≤ g.StorageT.StorageIndex.limit) c.args.rows.now c.loop-row.row-index c.row-item.result c.requires
    c.loop-row-test.true c.row-item.is)

pub loop-row-preserved : goal.loop-row-preserved
loop-row-preserved g c =
    let index = g.StorageT.StorageIndex.index in
    follows_more (λ row. map (goto_entry index) row.items) (λ row. row_gotos (map (plain_goto index) row.items)) c.args.rows.now c.loop-row.row-index
    c.row-item.result c.loop-row.stored.items c.push.new.self.items c.in_ok-row_stored_gotos.field-0 c.loop-row-test.true c.row-item.is
    c.loop-row.invariant c.in_ok-push.ensures.items (rw c.deref.ensures.value at c.in_ok-row_stored_gotos.ensures)

pub returns-in_err-stored : goal.returns-in_err-stored
returns-in_err-stored g c = no_value c.from_residual.result _ _ c.from_residual.ensures.1

pub returns-in_err-row_stored_gotos : goal.returns-in_err-row_stored_gotos
returns-in_err-row_stored_gotos g c = no_value c.from_residual-in_err-row_stored_gotos.result _ _ c.from_residual-in_err-row_stored_gotos.ensures.1

pub returns-in_err-push : goal.returns-in_err-push
returns-in_err-push g c = no_value c.from_residual-in_err-push.result _ _ c.from_residual-in_err-push.ensures.1

pub returns : goal.returns
returns g c = rw (take_all c.loop-row.row-index c.args.rows.now c.loop-row-test.false) at c.loop-row.invariant
