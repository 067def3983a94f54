use Rattle.std.proofs.Common.{◌+◌, List, map, sym, subst, arith}
use Rattle.lrpar_table_rows.specs.Packed.{AreOwned}
use Rattle.lrpar_table_rows.specs.declared.slots.Slot.{Slot}
use Rattle.lrpar_table_rows.proofs.PackedLemmas.{base_at, owned_row, owned_skip}
use Rattle.lrpar_table_rows.proofs.packed.put_rows.Goals as goal
use Rattle.lrpar_table_rows.proofs.packed.put_rows.Goals.{else-base-number-via-then-base-number+else-not-put_row, else-base-number-via-else-base-number}

pub loop-number-preserved : goal.loop-number-preserved
loop-number-preserved g c =
    let bases = c.args.bases.now in
    let n = c.loop-number.number in
    let at = base_at bases n (omega arith) in
    let rows = map (λ row. map (λ entry. g.K.Key.number entry.0) row.items) c.args.rows.now in
    elim c.else-base-number.branch [
      | else-base-number-via-then-base-number+else-not-put_row w ↦
          subst (λ (slots : List Slot). AreOwned rows bases slots c.args.free (n + 1)) (sym w.slots-is)
          (owned_row c.args.rows.now (λ row. row.items) (λ entry. g.K.Key.number entry.0) bases c.loop-number.slots w.put_row.new.slots c.args.free n _
          c.index-rows-number.result _ c.loop-number.invariant c.loop-number-test.true c.index-rows-number.is w.deref.ensures.value at w.if-base-number.true
          (omega arith) (w.put_row.ensures w.if-not-put_row.false))
      | else-base-number-via-else-base-number w ↦
          subst (λ (slots : List Slot). AreOwned rows bases slots c.args.free (n + 1)) (sym w.slots-is)
          (owned_skip rows bases c.loop-number.slots c.args.free n _ c.loop-number.invariant at w.if-base-number.false)
    ]
