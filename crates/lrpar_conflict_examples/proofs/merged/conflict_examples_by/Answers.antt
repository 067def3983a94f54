use Rattle.std.proofs.Common.{◌∙◌, sym, ap, map, subst}
use Rattle.std.specs.Prelude.{IsPermutation}
use Rattle.std.proofs.lemmas.List.{take_all}
use Rattle.lrpar_conflict_examples.specs.Conflicts.{ConflictExampleOf, unmet_in, unmet_of}
use Rattle.lrpar_conflict_examples.specs.ExamplesFit.{ExamplesFit}
use Rattle.lrpar_conflict_examples.specs.Merged.{ByCanonical, conflicts_of}
use Rattle.lrpar_conflict_examples.proofs.DealtLemmas.{dealt_more, dealt_none}
use Rattle.lrpar_conflict_examples.proofs.SortedLemmas.{sorted_more, sorted_none, sorted_searched}
use Rattle.lrpar_conflict_examples.proofs.merged.conflict_examples_by.Goals as goal

pub loop-conflict-init : goal.loop-conflict-init
loop-conflict-init g c =
    let index = g.StorageT.StorageIndex.index in (
      subst (ExamplesFit c.args.grm.now) (sym c.new.ensures.items) tt,
      dealt_none (unmet_of index) c.deref-conflict-items.result.now _ _ _ (ap (map (λ (e : ConflictExampleOf). e.conflict)) c.new.ensures.items)
          (ap (unmet_in index) c.new-2.ensures.items) (ap (unmet_in index) c.new-3.ensures.items),
      sorted_none index c.args.grm.now c.in_ok-canonical.canonical.sgraph _ c.args.bound _ c.new.ensures.items c.new-2.ensures.items c.new-3.ensures.items,
    )

pub loop-conflict-preserved : goal.loop-conflict-preserved
loop-conflict-preserved g c =
    let index = g.StorageT.StorageIndex.index in (
      c.in_ok-push.ensures.fit,
      dealt_more (unmet_of index) c.deref-conflict-items.result.now c.loop-conflict.conflict-index c.conflict-item.result (conflicts_of index c.loop-conflict.found)
          (conflicts_of index c.push.new.found) c.loop-conflict-test.true c.conflict-item.is c.loop-conflict.invariant.1 c.in_ok-push.ensures.all,
      sorted_more index c.args.grm.now _ c.in_ok-canonical.canonical c.args.precedences.now c.args.stable.now c.in_ok-canonical.ensures.canonical
          c.in_ok-canonical.ensures.compared c.args.bound c.conflict-item.result c.loop-conflict.found c.push.new.found c.loop-conflict.invariant.2
          c.in_ok-push.ensures.dealt,
    )

pub returns-clause-all : goal.returns-clause-all
returns-clause-all g c =
    let index = g.StorageT.StorageIndex.index in
    subst (λ l. IsPermutation l (conflicts_of index c.loop-conflict.found))
    (ap (unmet_in index) (take_all c.loop-conflict.conflict-index c.deref-conflict-items.result.now c.loop-conflict-test.false ∙ c.deref-conflict-items.ensures.value)
    ∙ c.in_ok-listed.ensures) c.loop-conflict.invariant.1

pub returns-clause-searched : goal.returns-clause-searched
returns-clause-searched g c =
    sorted_searched c.args.grm.now c.in_ok-canonical.canonical.sgraph _ c.args.bound c.loop-conflict.found.examples.items c.loop-conflict.invariant.2.examples

pub returns-clause-sorted : goal.returns-clause-sorted
returns-clause-sorted g c =
    let canonical = c.in_ok-canonical.canonical in
    ByCanonical canonical.sgraph canonical.stable c.in_ok-canonical.ensures.canonical.ready.built c.in_ok-canonical.ensures.room c.loop-conflict.invariant.2
