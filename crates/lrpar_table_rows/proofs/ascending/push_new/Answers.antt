use Rattle.lrpar_table_rows.proofs.AscendingLemmas.{same_from_last}
use Rattle.lrpar_grammar_places.proofs.FaultLemmas.{nothing_done}
use Rattle.lrpar_table_rows.proofs.ascending.push_new.Goals as goal

pub returns-in_err-push : goal.returns-in_err-push
returns-in_err-push g c = record { same = nothing_done c.from_residual.result _ _ c.from_residual.ensures.1 }

pub returns : goal.returns
returns g c = record { same = rw c.in_ok-push.ensures.items (λ x. (λ h. h, λ h. h)) }

pub returns-then-eq : goal.returns-then-eq
returns-then-eq g c = record {
  same =
      same_from_last g.T.PartialEq.eq c.requires.exact c.args.row.now.items c.last.result _ c.eq.result
      (rw c.deref.ensures.value at c.last.ensures.value) c.eq.ensures c.if-eq.true;
}
