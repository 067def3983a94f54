use Rattle.lrpar_grammar_places.proofs.FaultLemmas.{nothing_done}
use Rattle.lrpar_table_rows.proofs.full.push_action.Goals as goal

pub returns-in_err-push-in-Shift : goal.returns-in_err-push-in-Shift
returns-in_err-push-in-Shift g c = nothing_done c.from_residual.result _ _ c.from_residual.ensures.1
