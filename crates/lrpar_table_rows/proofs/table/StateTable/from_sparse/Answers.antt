use Rattle.std.proofs.Common.{◌≡◌, false}
use Rattle.lrpar_table_rows.specs.StoredRows.{StoreTable}
use Rattle.lrpar_grammar_places.proofs.FaultLemmas.{no_value}
use Rattle.lrpar_table_rows.proofs.FaultLemmas.{made_of_good, memory_of_good, refused_as_bad}
use Rattle.lrpar_table_rows.proofs.table.StateTable.from_sparse.Goals as goal

pub of_sparse-requires : goal.of_sparse-requires
of_sparse-requires g c = c.is_sparse_table.ensures.0 c.if-not-is_sparse_table.false

pub returns-in_err-of_sparse : goal.returns-in_err-of_sparse
returns-in_err-of_sparse g c =
    let memory = c.from_residual.ensures.1 in
    record {
      made = no_value c.from_residual.result _ _ memory;
      table = no_value c.from_residual.result _ _ memory;
      refused = memory_of_good _ c.from_residual.result (c.is_sparse_table.ensures.0 c.if-not-is_sparse_table.false) memory;
    }

pub returns : goal.returns
returns g c =
    let good = c.is_sparse_table.ensures.0 c.if-not-is_sparse_table.false in
    record { made = good; table = c.in_ok-of_sparse.ensures; refused = made_of_good _ c.in_ok-of_sparse.field-0 good }

pub returns-then-not-is_sparse_table-clause-refused : goal.returns-then-not-is_sparse_table-clause-refused
returns-then-not-is_sparse_table-clause-refused g c =
    let failed : c.is_sparse_table.result ≡ false = c.if-not-is_sparse_table.true in
    refused_as_bad (StoreTable g.StorageT.StorageIndex.index g.StorageT.StorageIndex.limit c.args.rows)
    (λ good. let passed = c.is_sparse_table.ensures.1 good in absurd cc)
