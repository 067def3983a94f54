use Rattle.std.proofs.Common.{◌≡◌, ◌∙◌, ◌<◌, false, length, inl, inr, arith}
use Rattle.std.proofs.lemmas.Bool.{cases_lt}
use Rattle.std.proofs.lemmas.List.{length-map}
use Rattle.lrpar_table_rows.specs.Ascending.{HaveSame}
use Rattle.lrpar_table_rows.specs.Graph.{item_at}
use Rattle.lrpar_table_rows.specs.PlainItems.{graph_of_rows, row_of}
use Rattle.lrpar_grammar_places.proofs.FaultLemmas.{no_value}
use Rattle.lrpar_table_rows.proofs.FaultLemmas.{made_of_few, memory_of_few, refused_as_many}
use Rattle.lrpar_table_rows.proofs.ItemLemmas.{same_at_each}
use Rattle.lrpar_table_rows.proofs.TestLemmas.{same_len}
use Rattle.lrpar_table_rows.proofs.graph.StateGraph.from_rows.Goals as goal

pub returns-in_ok-item_sets-clause-items : goal.returns-in_ok-item_sets-clause-items
returns-in_ok-item_sets-clause-items g c = λ s p k t.
    same_at_each c.in_ok-item_sets.field-0.items (graph_of_rows g.StorageT.StorageIndex.index c.args.rows) c.in_ok-item_sets.ensures s (item_at p k t)

pub returns-in_err-item_sets-clause-states : goal.returns-in_err-item_sets-clause-states
returns-in_err-item_sets-clause-states g c = no_value c.from_residual.result _ _ c.from_residual.ensures.1

pub returns-in_err-item_sets-clause-items : goal.returns-in_err-item_sets-clause-items
returns-in_err-item_sets-clause-items g c = no_value c.from_residual.result _ _ c.from_residual.ensures.1

pub returns-in_ok-item_sets-clause-states : goal.returns-in_ok-item_sets-clause-states
returns-in_ok-item_sets-clause-states g c =
    same_len HaveSame c.in_ok-item_sets.field-0.items (graph_of_rows g.StorageT.StorageIndex.index c.args.rows) c.in_ok-item_sets.ensures
    ∙ length-map c.args.rows.items (row_of g.StorageT.StorageIndex.index)

pub returns-in_ok-item_sets-clause-refused : goal.returns-in_ok-item_sets-clause-refused
returns-in_ok-item_sets-clause-refused g c =
    let few = c.can_number.ensures.0 c.if-can_number.true in
    made_of_few g.StorageT.StorageIndex.limit (length c.args.rows.items) _ (omega (arith, few, c.len.ensures, c.args.rows.ok.0))

pub returns-in_err-item_sets-clause-refused : goal.returns-in_err-item_sets-clause-refused
returns-in_err-item_sets-clause-refused g c =
    let few = c.can_number.ensures.0 c.if-can_number.true in
    memory_of_few g.StorageT.StorageIndex.limit (length c.args.rows.items) c.from_residual.result (omega (arith, few, c.len.ensures, c.args.rows.ok.0))
    c.from_residual.ensures.1

pub returns-else-can_number-clause-refused : goal.returns-else-can_number-clause-refused
returns-else-can_number-clause-refused g c =
    let limit = g.StorageT.StorageIndex.limit in
    let failed : c.can_number.result ≡ false = c.if-can_number.false in
    let many : limit < c.len.result =
    elim (cases_lt limit c.len.result) as (λ _. limit < c.len.result) [
      | inl more ↦ more
      | inr few ↦ let passed = c.can_number.ensures.1 few in absurd cc
    ] in
    refused_as_many limit (length c.args.rows.items) (omega (arith, many, c.len.ensures, c.args.rows.ok.0))
