use Rattle.std.proofs.Common.{◌∙◌, ap, sym}
use Rattle.std.specs.List.{find}
use Rattle.lrpar_conflict_examples.specs.Conflicts.{unmet_in, unmet_of}
use Rattle.lrpar_conflict_examples.specs.Merged.{lies_by}
use Rattle.lrpar_conflict_examples.proofs.SortedLemmas.{search_all, search_found, search_more, search_none}
use Rattle.lrpar_conflict_examples.proofs.merged.Canonical.first_in.Goals as goal

pub loop-own-init : goal.loop-own-init
loop-own-init g c =
    let index = g.StorageT.StorageIndex.index in
    search_none (unmet_of index) (lies_by c.args.self.now (unmet_of index c.args.conflict)) c.deref-own-items.result.now

pub loop-own-preserved : goal.loop-own-preserved
loop-own-preserved g c =
    let index = g.StorageT.StorageIndex.index in
    search_more (unmet_of index) (lies_by c.args.self.now (unmet_of index c.args.conflict)) c.deref-own-items.result.now c.loop-own.own-index c.own-item.result
    c.loop-own-test.true c.own-item.is c.loop-own.invariant (sym c.lies_in.ensures ∙ c.if-lies_in.false)

pub returns-then-lies_in : goal.returns-then-lies_in
returns-then-lies_in g c =
    let index = g.StorageT.StorageIndex.index in
    let test = lies_by c.args.self.now (unmet_of index c.args.conflict) in
    search_found (unmet_of index) test c.deref-own-items.result.now c.loop-own.own-index c.own-item.result c.loop-own-test.true c.own-item.is c.loop-own.invariant
    (sym c.lies_in.ensures ∙ c.if-lies_in.true)
    ∙ ap (λ l. find test (unmet_in index l)) c.deref-own-items.ensures.value

pub returns : goal.returns
returns g c =
    let index = g.StorageT.StorageIndex.index in
    let test = lies_by c.args.self.now (unmet_of index c.args.conflict) in
    sym (search_all (unmet_of index) test c.deref-own-items.result.now c.loop-own.own-index c.loop-own-test.false c.loop-own.invariant)
    ∙ ap (λ l. find test (unmet_in index l)) c.deref-own-items.ensures.value
