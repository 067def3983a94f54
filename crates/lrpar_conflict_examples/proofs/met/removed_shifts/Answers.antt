use Rattle.std.proofs.Common.{◌≡◌, ◌∙◌, All, sym, ap, subst, arith, length, map}
use Rattle.std.proofs.lemmas.List.{length-map}
use Rattle.lrpar_table_first.proofs.GrowthLemmas.{lent_back}
use Rattle.lrpar_table_first.specs.FirstRows.{HoldNothing, rows_of}
use Rattle.lrpar_table_rows.specs.PlainConflicts.{shift_reduce_of}
use Rattle.lrpar_table_build.specs.BuilderLaws.{lists_in}
use Rattle.lrpar_conflict_examples.specs.Met.{AreLostShifts}
use Rattle.lrpar_conflict_examples.proofs.TakenLemmas.{taken_by}
use Rattle.lrpar_conflict_examples.proofs.met.removed_shifts.Goals as goal

pub returns : goal.returns
returns g c =
    let plain = shift_reduce_of g.StorageT.StorageIndex.index in
    let p = c.args.precedences.now in
    let table = c.args.stable.now in
    let old = c.in_ok-sets.sets.items in
    let new = c.remove_shifts.new.sets in
    let full : c.in_ok-sets.sets.len ≡ length old = c.in_ok-sets.sets.ok.0 in
    let same : length new ≡ c.in_ok-sets.sets.len = omega (arith, c.remove_shifts.auto.sets, c.deref_mut.ensures.len, full) in
    let back = lent_back old new c.in_ok-sets.sets.len (sym full) same in
    let lent = c.deref_mut.result.now in
    let lent_is : lent ≡ old = c.deref_mut.ensures.value in
    subst (λ xs. AreLostShifts p table (rows_of xs)) (sym back)
    (taken_by p table (rows_of lent) (rows_of new) (map plain c.sr_conflicts.result.now) c.remove_shifts.ensures.room
    (ap length lent_is ∙ c.in_ok-sets.ensures.len ∙ c.states_len.ensures.states)
    (subst (λ n. All (λ row. length row ≡ n) (rows_of lent)) c.tokens_len.ensures.tokens
    (subst (λ xs. All (λ row. length row ≡ c.tokens_len.result) (rows_of xs)) (sym lent_is) c.in_ok-sets.ensures.wide))
    (subst (λ xs. HoldNothing (rows_of xs)) (sym lent_is) c.in_ok-sets.ensures.none) c.remove_shifts.ensures.exact
    (c.sr_conflicts.ensures ∙ ap (λ o. (lists_in o).shift_reduce) c.in-Some.ensures))
