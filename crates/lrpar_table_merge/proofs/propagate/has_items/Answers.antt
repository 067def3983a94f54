use Rattle.std.proofs.Common.{◌∙◌, refl, sym, ap, subst, map, take}
use Rattle.std.proofs.lemmas.Bool.{false≢true}
use Rattle.std.proofs.lemmas.List.{take_all}
use Rattle.lrpar_grammar_places.proofs.ListLemmas.{map-take_more}
use Rattle.lrpar_table_items.specs.Cores.{IsAmong, core_set}
use Rattle.lrpar_table_items.proofs.CoreLemmas.{among_nil}
use Rattle.lrpar_table_merge.proofs.FromLemmas.{no_item_more, some_item_at}
use Rattle.lrpar_table_merge.proofs.propagate.has_items.Goals as goal

pub loop-core-init : goal.loop-core-init
loop-core-init g c = among_nil

pub returns-then-has_any : goal.returns-then-has_any
returns-then-has_any g c =
    let some = c.has_any.ensures.0 c.if-has_any.true in
    (λ h. some_item_at g.StorageT.StorageIndex.index c.args.cores.now c.loop-core.core-index c.core-item.result c.loop-core-test.true c.core-item.is some.0 some.1, λ h. refl)

pub loop-core-preserved : goal.loop-core-preserved
loop-core-preserved g c =
    let index = g.StorageT.StorageIndex.index in
    let more = map-take_more (core_set index) c.args.cores.now c.loop-core.core-index c.core-item.result c.loop-core-test.true c.core-item.is in
    λ x h.
    no_item_more (map (core_set index) (take c.loop-core.core-index c.args.cores.now)) (core_set index c.core-item.result) c.loop-core.invariant
    (λ t has_it. false≢true (sym c.if-has_any.false ∙ c.has_any.ensures.1 (t, has_it))) x (subst (λ cores. IsAmong cores x) more h)

pub returns : goal.returns
returns g c =
    let all = ap (map (core_set g.StorageT.StorageIndex.index)) (take_all c.loop-core.core-index c.args.cores.now c.loop-core-test.false) in
    (λ h. absurd (false≢true h), λ some. absurd (c.loop-core.invariant some.0 (subst (λ cores. IsAmong cores some.0) (sym all) some.1)))
