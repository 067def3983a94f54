use Rattle.lrpar_table_check.proofs.SentenceLemmas.{complete_tables_take_sentences}
use Rattle.lrpar_table_check.proofs.laws.complete_tables_accept_sentences.Goals as goal

pub returns : goal.returns
returns g c = record { takes = complete_tables_take_sentences; facts_taken = complete_tables_take_sentences }
