use Rattle.std.proofs.Common.{◌++◌, ◌∷◌, [], ◌∙◌, sym, ap, map}
use Rattle.std.proofs.lemmas.List.{map-append, take_all}
use Rattle.lrpar_table_items.specs.Cores.{core_set}
use Rattle.lrpar_table_items.specs.CompleteItems.{prods_at}
use Rattle.lrpar_table_items.proofs.CompleteItemLemmas.{prods_no, prods_yes}
use Rattle.lrpar_table_items.proofs.complete_items.reductions_at.Goals as goal
use Rattle.lrpar_table_items.proofs.complete_items.reductions_at.Goals.{then-reduces+in_ok-push, else-reduces}

pub loop-core-preserved : goal.loop-core-preserved
loop-core-preserved g c =
    let index = g.StorageT.StorageIndex.index in
    let start = c.args.start in
    let i = c.loop-core.core-index in
    elim c.if-reduces.branch [
      | then-reduces+in_ok-push w ↦
          ap (λ v. map (λ p. index p.0) v.items) w.prods-is ∙ ap (map (λ p. index p.0)) w.in_ok-push.ensures.items
          ∙ map-append (λ p. index p.0) c.loop-core.prods.items (c.core-item.result.now.prod ∷ []) ∙ ap (λ s. s ++ index c.core-item.result.now.prod.0 ∷ []) c.loop-core.invariant
          ∙ sym (prods_yes (λ core. core_set index core.now) start c.args.token c.args.complete.now i c.core-item.result c.loop-core-test.true c.core-item.is
          (sym c.reduces.ensures ∙ w.if-reduces.true))
      | else-reduces w ↦
          ap (λ v. map (λ p. index p.0) v.items) w.prods-is ∙ c.loop-core.invariant
          ∙ sym (prods_no (λ core. core_set index core.now) start c.args.token c.args.complete.now i c.core-item.result c.loop-core-test.true c.core-item.is
          (sym c.reduces.ensures ∙ w.if-reduces.false))
    ]

pub returns : goal.returns
returns g c =
    let index = g.StorageT.StorageIndex.index in
    c.loop-core.invariant
    ∙ ap (λ s. prods_at c.args.start (map (λ core. core_set index core.now) s) c.args.token)
    (take_all c.loop-core.core-index c.args.complete.now c.loop-core-test.false)
