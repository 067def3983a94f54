use Rattle.std.proofs.Common.{◌∙◌, ◌++◌, ap, map, sym}
use Rattle.std.proofs.lemmas.List.{length-map, take_all}
use Rattle.std.specs.Option.{option_to_list}
use Rattle.lrpar_table_rows.specs.PlainRows.{plain_goto}
use Rattle.lrpar_table_rows.specs.Rows.{kept_entry}
use Rattle.lrpar_grammar_places.proofs.FaultLemmas.{no_value}
use Rattle.lrpar_table_rows.proofs.RowLemmas.{row_entries_more}
use Rattle.lrpar_table_rows.proofs.full.row_stored_gotos.Goals as goal

pub loop-number-preserved : goal.loop-number-preserved
loop-number-preserved g c =
    let index = g.StorageT.StorageIndex.index in
    let number = c.loop-number.number in
    let item = c.index-row-number.result in
    let more =
    row_entries_more (λ goto. goto) (plain_goto index) c.args.row.now number item c.loop-number-test.true c.index-row-number.is in
    c.in_ok-push_goto.ensures
    ∙ (ap (λ es. es ++ option_to_list (kept_entry (λ goto. goto) (number, plain_goto index item))) c.loop-number.invariant ∙ sym more)

pub returns-in_err-push_goto : goal.returns-in_err-push_goto
returns-in_err-push_goto g c = no_value c.from_residual.result _ _ c.from_residual.ensures.1

pub returns : goal.returns
returns g c =
    rw (take_all c.loop-number.number (map (plain_goto g.StorageT.StorageIndex.index) c.args.row.now) (rw length-map c.loop-number-test.false))
    at c.loop-number.invariant
