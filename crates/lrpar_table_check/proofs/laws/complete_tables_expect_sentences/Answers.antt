use Rattle.lrpar_table_check.proofs.ExpectedRunLemmas.{checked_tables_end_at_sentences, complete_tables_expect_sentences}
use Rattle.lrpar_table_check.proofs.laws.complete_tables_expect_sentences.Goals as goal

pub returns : goal.returns
returns g c = record {
  ends = checked_tables_end_at_sentences;
  expects = complete_tables_expect_sentences;
  facts_end = checked_tables_end_at_sentences;
  facts_expect = complete_tables_expect_sentences;
}
