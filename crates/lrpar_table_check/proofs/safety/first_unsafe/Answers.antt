use Rattle.std.proofs.Common.{◌≡◌, ℕ, below_more, subst}
use Rattle.lrpar_table_rows.specs.Safe.{IsSafeAt}
use Rattle.lrpar_table_check.proofs.safety.first_unsafe.Goals as goal

pub loop-s-preserved : goal.loop-s-preserved
loop-s-preserved g c =
    let index = g.StorageT.StorageIndex.index in
    let number : index c.unwrap.result ≡ c.loop-s.s = rw c.unwrap.ensures at c.from_index.ensures.back in
    let Holds : ℕ → Type 0 = λ s. IsSafeAt c.args.parts.now.grm.now c.args.parts.now.sgraph.now c.args.parts.now.stable.now c.args.condition s in
    below_more Holds c.loop-s.s c.loop-s.invariant (subst Holds number (c.is_safe_at.ensures.0 c.if-not-is_safe_at.false))
