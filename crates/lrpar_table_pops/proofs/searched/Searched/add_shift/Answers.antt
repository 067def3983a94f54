use Rattle.std.proofs.Common.{◌≡◌, ◌∙◌, ap, subst, sym}
use Rattle.std.proofs.lemmas.Result.{on_ok_weaker}
use Rattle.lrpar_table_rows.specs.PlainRows.{plain_action}
use Rattle.lrpar_table_rows.specs.Table.{ShiftTo}
use Rattle.lrpar_table_pops.specs.Searched.{IsMetAt}
use Rattle.lrpar_table_pops.proofs.searched.Searched.add_shift.Goals as goal

pub add-requires-clause-joined : goal.add-requires-clause-joined
add-requires-clause-joined g c =
    let index = g.StorageT.StorageIndex.index in c.requires.joined (index c.in-Shift.next.0) (ap (plain_action index) c.in-Shift.is)

pub returns-in-Shift-clause-met : goal.returns-in-Shift-clause-met
returns-in-Shift-clause-met g c =
    let index = g.StorageT.StorageIndex.index in
    on_ok_weaker c.add.result (λ met next shift.
    let same : ShiftTo (index c.in-Shift.next.0) ≡ ShiftTo next = sym (ap (plain_action index) c.in-Shift.is) ∙ shift in
    let to : index c.in-Shift.next.0 ≡ next = cc in
    subst (IsMetAt index c.args.checked.now.grammar c.args.checked.now.table c.add.new.self.stacks.items c.args.place) to met) c.add.ensures.met
