use Rattle.lrpar_parse_prefixes.proofs.UnviableLemmas.{bare_table_errs_late, stray_table_errs_late}
use Rattle.lrpar_parse_prefixes.proofs.laws.safe_tables_can_err_late.Goals as goal

pub returns : goal.returns
returns c = record {
  empty = bare_table_errs_late;
  unjustified = stray_table_errs_late;
}
