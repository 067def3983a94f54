use Rattle.std.proofs.Common.{rules, tests}
use Rattle.std.proofs.lemmas.Iterator.{YieldsList-from_slice}
use Rattle.lrpar_table_rows.specs.Graph.{HasItem}
use Rattle.lrpar_table_rows.specs.Safe.{IsItem}
use Rattle.lrpar_table_rows.proofs.Mapped.{all_by_test}
use Rattle.lrpar_table_conditions.proofs.Reworded.{reworded}
use Rattle.lrpar_table_conditions.proofs.ItemwiseLemmas.{all_lookaheads}
use Rattle.lrpar_table_conditions.proofs.checkable.Checkable.items_with_are_in_range.Goals as goal

pub returns : goal.returns
returns g c =
    let index = g.StorageT.StorageIndex.index in
    let p = index c.args.pidx.0 in
    let Fits = IsItem c.args.self.now.grm.now p c.args.dot in
    let tokens = c.lookaheads.result.now in
    reworded c.all.result
    (all_by_test (λ x. Fits (index x.0)) _ _ c.all.result c.all.ensures.ran (YieldsList-from_slice tokens cc) (λ x b q k. search (rules, tests)))
    (all_lookaheads index (HasItem c.args.self.now.sgraph.now (index c.args.s.0) p c.args.dot) Fits tokens c.lookaheads.ensures.all)
