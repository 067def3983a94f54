use Rattle.std.proofs.Common.{◌≡◌, false, sym, subst}
use Rattle.lrpar_table_rows.specs.PlainRows.{plain_rows}
use Rattle.lrpar_table_rows.specs.StoredRows.{HasActionsOf, HasGotosOf, MakeTable}
use Rattle.lrpar_grammar_places.proofs.FaultLemmas.{no_value}
use Rattle.lrpar_table_rows.proofs.FaultLemmas.{made_of_good, memory_of_good, refused_as_bad}
use Rattle.lrpar_table_rows.proofs.RowLemmas.{action_of_rows, goto_of_rows}
use Rattle.lrpar_table_rows.proofs.table.StateTable.from_rows.Goals as goal

pub returns-then-not-are_rows-clause-refused : goal.returns-then-not-are_rows-clause-refused
returns-then-not-are_rows-clause-refused g c =
    let failed : c.are_rows.result ≡ false = c.if-not-are_rows.true in
    refused_as_bad (MakeTable g.StorageT.StorageIndex.index g.StorageT.StorageIndex.limit c.args.rows)
    (λ good. let passed = c.are_rows.ensures.1 good in absurd cc)

pub returns-in_err-of_rows : goal.returns-in_err-of_rows
returns-in_err-of_rows g c =
    let memory = c.from_residual.ensures.1 in
    record {
      made = no_value c.from_residual.result _ _ memory;
      table = no_value c.from_residual.result _ _ memory;
      actions = no_value c.from_residual.result _ _ memory;
      gotos = no_value c.from_residual.result _ _ memory;
      refused = memory_of_good _ c.from_residual.result (c.are_rows.ensures.0 c.if-not-are_rows.false) memory;
    }

pub of_rows-requires : goal.of_rows-requires
of_rows-requires g c = c.are_rows.ensures.0 c.if-not-are_rows.false

pub returns : goal.returns
returns g c =
    let index = g.StorageT.StorageIndex.index in
    let rows = plain_rows index c.args.rows in
    let good = c.are_rows.ensures.0 c.if-not-are_rows.false in
    let table = c.in_ok-of_rows.ensures in
    record {
      made = good;
      table = table;
      actions = subst (HasActionsOf index c.args.rows) (sym table) (action_of_rows rows);
      gotos = subst (HasGotosOf index c.args.rows) (sym table) (goto_of_rows rows);
      refused = made_of_good _ c.in_ok-of_rows.field-0 good;
    }
