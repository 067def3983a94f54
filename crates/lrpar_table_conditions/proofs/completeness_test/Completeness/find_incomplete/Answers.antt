use Rattle.std.proofs.Common.{◌≡◌, ℕ, below_more, subst}
use Rattle.lrpar_table_conditions.specs.Complete.{IsCompleteAt}
use Rattle.lrpar_table_conditions.proofs.completeness_test.Completeness.find_incomplete.Goals as goal

pub loop-s-preserved : goal.loop-s-preserved
loop-s-preserved g c =
    let index = g.StorageT.StorageIndex.index in
    let number : index c.unwrap.result ≡ c.loop-s.s = rw c.unwrap.ensures at c.from_index.ensures.back in
    let Holds : ℕ → Type 0 = λ s. IsCompleteAt c.args.self.now.grm.now c.args.self.now.sgraph.now c.args.self.now.stable.now c.args.condition s in (
      c.is_complete_at.ensures.ready,
      below_more Holds c.loop-s.s c.loop-s.invariant.1 (subst Holds number (c.is_complete_at.ensures.test.0 c.if-not-is_complete_at.false)),
    )
