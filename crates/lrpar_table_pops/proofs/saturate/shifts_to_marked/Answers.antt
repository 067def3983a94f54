use Rattle.std.proofs.Common.{◌≡◌, ◌∙◌, ap, subst, sym, ℕ}
use Rattle.std.proofs.lemmas.Bool.{OnFalse_from}
use Rattle.lrpar_table_rows.specs.PlainRows.{plain_action}
use Rattle.lrpar_table_pops.specs.StoredAll.{IsMarked}
use Rattle.lrpar_table_pops.proofs.MarkLemmas.{shift_same, unmarked}
use Rattle.lrpar_table_pops.proofs.saturate.shifts_to_marked.Goals as goal

pub returns-in-Shift : goal.returns-in-Shift
returns-in-Shift g c =
    let index = g.StorageT.StorageIndex.index in
    OnFalse_from c.is_marked.result _ (λ off next is.
    let same : index c.in-Shift.next.0 ≡ next = shift_same (index c.in-Shift.next.0) next (sym (ap (plain_action index) c.in-Shift.is) ∙ is) in
    subst (λ (n : ℕ). ¬ (IsMarked c.args.marks.now n)) (c.from.ensures ∙ same) (unmarked c.args.marks.now c.from.result c.is_marked.result c.is_marked.ensures off))
