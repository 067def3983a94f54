use Rattle.std.proofs.Common.{◌∙◌, sym, ap, map}
use Rattle.std.proofs.lemmas.List.{take_all}
use Rattle.lrpar_table_items.specs.Cores.{core_set}
use Rattle.lrpar_table_items.specs.CompleteItems.{accepts_at}
use Rattle.lrpar_table_items.proofs.CompleteItemLemmas.{accepts_no, accepts_yes}
use Rattle.lrpar_table_items.proofs.complete_items.accepts.Goals as goal

pub returns-then-accepts_by : goal.returns-then-accepts_by
returns-then-accepts_by g c =
    let index = g.StorageT.StorageIndex.index in
    sym (accepts_yes (λ core. core_set index core.now) c.args.start c.args.token c.args.complete.now c.loop-core.core-index c.core-item.result
    c.loop-core-test.true c.core-item.is (sym c.accepts_by.ensures ∙ c.if-accepts_by.true))

pub loop-core-preserved : goal.loop-core-preserved
loop-core-preserved g c =
    let index = g.StorageT.StorageIndex.index in
    accepts_no (λ core. core_set index core.now) c.args.start c.args.token c.args.complete.now c.loop-core.core-index c.core-item.result
    c.loop-core-test.true c.core-item.is c.loop-core.invariant (sym c.accepts_by.ensures ∙ c.if-accepts_by.false)

pub returns : goal.returns
returns g c =
    let index = g.StorageT.StorageIndex.index in
    sym (sym (ap (λ s. accepts_at c.args.start (map (λ core. core_set index core.now) s) c.args.token)
    (take_all c.loop-core.core-index c.args.complete.now c.loop-core-test.false)) ∙ c.loop-core.invariant)
