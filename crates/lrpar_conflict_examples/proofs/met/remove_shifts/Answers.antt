use Rattle.std.proofs.Common.{◌≡◌, ◌<◌, ◌+◌, ◌||◌, ◌∙◌, sym, ap, arith, length, map, take}
use Rattle.std.specs.List.{list_any}
use Rattle.std.proofs.lemmas.List.{take_all}
use Rattle.lrpar_grammar.specs.Tokens.{has}
use Rattle.lrpar_grammar_places.proofs.ListLemmas.{map-take_more}
use Rattle.lrpar_table_first.specs.FirstRows.{row_at, rows_of}
use Rattle.lrpar_table_precedence.specs.Precedence.{resolution_of}
use Rattle.lrpar_table_rows.specs.PlainConflicts.{shift_reduce_of}
use Rattle.lrpar_conflict_examples.specs.Met.{loses_shift, loses_shift_at}
use Rattle.lrpar_conflict_examples.proofs.TakenLemmas.{room_same, taken_else, taken_more, taken_then}
use Rattle.lrpar_conflict_examples.proofs.met.remove_shifts.Goals as goal
use Rattle.lrpar_conflict_examples.proofs.met.remove_shifts.Goals.{then-loses_shift, else-loses_shift}

pub loop-conflict-preserved : goal.loop-conflict-preserved
loop-conflict-preserved g c =
    let index = g.StorageT.StorageIndex.index in
    let plain = shift_reduce_of index in
    let p = c.args.precedences.now in
    let i = c.loop-conflict.conflict-index in
    let x = c.conflict-item.result in
    let conflicts = c.args.conflicts.now in
    let first = rows_of c.args.sets.now in
    let before = rows_of c.loop-conflict.sets in
    let after = rows_of c.if-loses_shift.sets in
    let more = map-take_more plain conflicts i x c.loop-conflict-test.true c.conflict-item.is in
    let decided : loses_shift (resolution_of p (plain x).prod (plain x).token) ≡ c.loses_shift.result = ap loses_shift (sym c.resolution.ensures) ∙ sym c.loses_shift.ensures in
    elim c.if-loses_shift.branch [
      | then-loses_shift w ↦ (
        ap (λ sets. map (λ row. length row) (rows_of sets)) w.sets-is ∙ w.remove_shift.ensures.room ∙ c.loop-conflict.invariant.0,
        λ s t low. taken_more p s t (map plain (take i conflicts)) (map plain (take (i + 1) conflicts)) (plain x) (has (row_at first s) t) (has (row_at before s) t)
            (has (row_at after s) t) more (c.loop-conflict.invariant.1 s t low)
            (let low_now : t < length (row_at before s) = let same = room_same first before s c.loop-conflict.invariant.0 in omega (arith, same, low) in
            taken_then p s t (plain x) (has (row_at before s) t) (has (row_at after s) t) c.loses_shift.result decided w.from.result w.from-then-loses_shift.result
            w.if-loses_shift.true w.from.ensures w.from-then-loses_shift.ensures
            (ap (λ sets. has (row_at (rows_of sets) s) t) w.sets-is ∙ w.remove_shift.ensures.exact s t low_now)),
      )
      | else-loses_shift w ↦ (
        ap (λ sets. map (λ row. length row) (rows_of sets)) w.sets-is ∙ c.loop-conflict.invariant.0,
        λ s t low. taken_more p s t (map plain (take i conflicts)) (map plain (take (i + 1) conflicts)) (plain x) (has (row_at first s) t) (has (row_at before s) t)
            (has (row_at after s) t) more (c.loop-conflict.invariant.1 s t low)
            (taken_else p s t (plain x) (has (row_at before s) t) (has (row_at after s) t) c.loses_shift.result decided w.if-loses_shift.false
            (ap (λ sets. has (row_at (rows_of sets) s) t) w.sets-is)),
      )
    ]

pub returns-clause-exact : goal.returns-clause-exact
returns-clause-exact g c = λ s t low.
    let plain = shift_reduce_of g.StorageT.StorageIndex.index in
    c.loop-conflict.invariant.1 s t low
    ∙ ap (λ xs. has (row_at (rows_of c.args.sets.now) s) t || list_any (loses_shift_at c.args.precedences.now s t) (map plain xs))
    (take_all c.loop-conflict.conflict-index c.args.conflicts.now c.loop-conflict-test.false)
