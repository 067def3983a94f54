use Rattle.std.proofs.Common.{◌≡◌, length, arith, rules}
use Rattle.lrpar_table_rows.proofs.PackedLemmas.{packed_back}
use Rattle.lrpar_table_rows.proofs.packed.filled.Goals as goal

pub returns-then-are_shared-clause-packed : goal.returns-then-are_shared-clause-packed
returns-then-are_shared-clause-packed g c =
    let kept : c.in_ok-slots.slots.len ≡ length c.put_rows.new.slots = omega (arith, c.in_ok-slots.slots.ok.0) in
    let all : length c.args.rows.now ≡ c.in-Ok.free = search rules in
    packed_back _ c.args.bases.now c.put_rows.new.slots _ c.in_ok-slots.slots.len c.in-Ok.free (length c.args.rows.now) kept c.if-bases-rows.true all
    (c.put_rows.ensures c.if-put_rows.true) (c.are_shared.ensures c.if-are_shared.true)
