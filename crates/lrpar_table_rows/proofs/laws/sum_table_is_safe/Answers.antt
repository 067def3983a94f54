use Rattle.std.proofs.Common.{◌^◌, refl, rules}
use Rattle.lrpar_grammar.specs.Sum.{sum_grammar}
use Rattle.lrpar_table_rows.specs.Sum.{sum_graph, sum_table}
use Rattle.lrpar_table_rows.specs.Table.{IsTable, goto_of}
use Rattle.lrpar_table_rows.proofs.SafeTests.{safe_by_test}
use Rattle.lrpar_table_rows.proofs.laws.sum_table_is_safe.Goals as goal

pub returns : goal.returns
unfolding goto_of
returns c =
    let is : IsTable (2 ^ 8) sum_table = search rules in
    safe_by_test (2 ^ 8) sum_grammar sum_graph sum_table is refl refl refl refl
