use Rattle.lrpar_table_rows.proofs.PackedLemmas.{owner_shares}
use Rattle.lrpar_table_rows.proofs.packed.is_shared.Goals as goal

pub returns-then-owner-base-2 : goal.returns-then-owner-base-2
returns-then-owner-base-2 g c =
    λ same.
    owner_shares c.args.rows.now (λ row. row.items) (λ entry. g.K.Key.number entry.0) c.args.bases.now c.args.base c.index-rows-number.result _ _
    c.if-number-rows.false c.requires c.if-owner-base-2.true.0 c.if-owner-base-2.true.1 c.index-rows-number.is c.deref.ensures.value (c.have_same_keys.ensures same)
