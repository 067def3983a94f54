use Rattle.std.proofs.Common.{◌≡◌, rules, tests}
use Rattle.std.proofs.lemmas.Iterator.{YieldsList-from_slice}
use Rattle.lrpar_table_rows.proofs.GraphLemmas.{all_cores}
use Rattle.lrpar_table_rows.proofs.Mapped.{all_by_test}
use Rattle.lrpar_table_conditions.proofs.Reworded.{reworded}
use Rattle.lrpar_table_conditions.proofs.checkable.Checkable.starts_fresh.Goals as goal

pub returns-else-not-is_start : goal.returns-else-not-is_start
returns-else-not-is_start g c =
    let index = g.StorageT.StorageIndex.index in
    let cores = c.cores.result.now in
    let fresh = all_cores index (λ p k. k ≡ 0) c.args.self.now.sgraph.now (index c.args.s.0) cores c.cores.ensures.all in
    reworded c.all.result
    (all_by_test (λ x. x.1 ≡ 0) _ _ c.all.result c.all.ensures.ran (YieldsList-from_slice cores cc) (λ x b q k. search (rules, tests)))
    (λ all start. fresh.0 all, λ holds. fresh.1 (holds (c.is_start.ensures.0 c.if-not-is_start.false)))
