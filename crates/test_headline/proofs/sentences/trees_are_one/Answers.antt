use Rattle.std.proofs.lemmas.Result.{IfOk-weaker}
use Rattle.lrpar_table_conditions.specs.Complete.{IsComplete}
use Rattle.test_headline.proofs.sentences.trees_are_one.Goals as goal

pub returns : goal.returns
returns g c =
    let d = c.args.checked.now in
    let checked = c.stable-lemma.ensures.checked in
    IfOk-weaker c.check_complete.result (λ _. IsComplete d.grammar d.graph d.table) _
    (λ _ complete token. (c.complete_tables_accept_sentences.ensures.takes token d.grammar d.graph d.table checked.well_formed checked.closed checked.safe complete).one)
    c.check_complete.ensures.complete
