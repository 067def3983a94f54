use Rattle.std.proofs.Common.{◌<◌, ◌++◌, ◌∷◌, [], Bool, List, ◌==◌, ◌∙◌, sym, ap, subst, map, filter, rules}
use Rattle.std.specs.List.Sorted.{IsPermutation}
use Rattle.std.proofs.lemmas.List.{map-append, take_all}
use Rattle.std.proofs.lemmas.List.Sorted.{IsNonDecreasingBy-from_sort_by_key, IsPermutation-map}
use Rattle.lrpar_grammar.specs.Grammar.{prod_len, prods_len}
use Rattle.lrpar_grammar_places.proofs.ListLemmas.{All-map-at}
use Rattle.lrpar_table_items.specs.Cores.{CoreSet, core_set}
use Rattle.lrpar_table_items.proofs.CompleteItemLemmas.{passing_no, passing_yes}
use Rattle.lrpar_table_items.proofs.complete_items.complete_cores.Goals as goal
use Rattle.lrpar_table_items.proofs.complete_items.complete_cores.Goals.{then-ends+in_ok-push, else-ends}

pub ends-requires : goal.ends-requires
ends-requires g c =
    let index = g.StorageT.StorageIndex.index in
    subst (λ core. index core.prod.0 < prods_len c.args.grm.now) (sym c.core-item.is)
    (All-map-at (λ core. core.prod < prods_len c.args.grm.now) (core_set index) c.args.cores.now c.requires c.loop-core.core-index c.core-item.result
    c.loop-core-test.true)

pub loop-core-preserved : goal.loop-core-preserved
loop-core-preserved g c =
    let index = g.StorageT.StorageIndex.index in
    elim c.if-ends.branch [
      | then-ends+in_ok-push w ↦
          ap (λ v. map (λ core. core_set index core.now) v.items) w.complete-is ∙ ap (map (λ core. core_set index core.now)) w.in_ok-push.ensures.items
          ∙ map-append (λ core. core_set index core.now) c.loop-core.complete.items (_ ∷ []) ∙ ap (λ s. s ++ core_set index c.core-item.result ∷ []) c.loop-core.invariant
          ∙ sym (passing_yes (core_set index) (λ core. core.dot == prod_len c.args.grm.now core.prod) c.args.cores.now c.loop-core.core-index c.core-item.result
          c.loop-core-test.true c.core-item.is (sym c.ends.ensures ∙ w.if-ends.true))
      | else-ends w ↦
          ap (λ v. map (λ core. core_set index core.now) v.items) w.complete-is ∙ c.loop-core.invariant
          ∙ sym (passing_no (core_set index) (λ core. core.dot == prod_len c.args.grm.now core.prod) c.args.cores.now c.loop-core.core-index c.core-item.result
          c.loop-core-test.true c.core-item.is (sym c.ends.ensures ∙ w.if-ends.false))
    ]

pub returns-clause-all : goal.returns-clause-all
returns-clause-all g c =
    let index = g.StorageT.StorageIndex.index in
    let test : CoreSet → Bool = λ core. core.dot == prod_len c.args.grm.now core.prod in
    let moved = IsPermutation-map (λ core. core_set index core.now) c.loop-core.complete.items _ c.sort_unstable_by_key.ensures.permutation in
    subst (λ (s : List CoreSet). IsPermutation s (map (λ core. core_set index core.now) c.sort_unstable_by_key.new.self.items))
    (c.loop-core.invariant ∙ ap (λ s. filter test (map (core_set index) s)) (take_all c.loop-core.core-index c.args.cores.now c.loop-core-test.false)) moved

pub returns-clause-sorted : goal.returns-clause-sorted
returns-clause-sorted g c =
    let index = g.StorageT.StorageIndex.index in
    IsNonDecreasingBy-from_sort_by_key (λ core. index core.now.prod.0) _ c.sort_unstable_by_key.ensures.sorted (λ a r q k. search rules)
