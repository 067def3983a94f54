use Rattle.std.proofs.Common.{arith}
use Rattle.lrpar_table_rows.proofs.PackedLemmas.{base_at, shared_row}
use Rattle.lrpar_table_rows.proofs.packed.are_shared.Goals as goal

pub loop-number-preserved : goal.loop-number-preserved
loop-number-preserved g c =
    let at = base_at c.args.bases.now c.loop-number.number (omega arith) in
    shared_row c.args.rows.now (λ row. row.items) (λ entry. g.K.Key.number entry.0) c.args.bases.now c.loop-number.number _ c.index-rows-number.result _
    c.loop-number.invariant c.loop-number-test.true c.index-rows-number.is c.deref.ensures.value at (c.is_shared.ensures c.if-not-is_shared.false)

pub returns : goal.returns
returns g c = λ done r base below at. c.loop-number.invariant r base (omega (arith, below)) at
