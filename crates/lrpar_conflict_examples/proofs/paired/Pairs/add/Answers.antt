use Rattle.std.proofs.Common.{◌∙◌, refl}
use Rattle.lrpar_conflict_examples.specs.Pairs.{WasNew, WasThere}
use Rattle.lrpar_conflict_examples.proofs.PairLemmas.{has_by, row_put}
use Rattle.lrpar_conflict_examples.proofs.paired.Pairs.add.Goals as goal

pub returns-then-contains-clause-added : goal.returns-then-contains-clause-added
returns-then-contains-clause-added c =
    WasThere
    (has_by c.args.self.now.rows.items c.args.state c.index.result.now c.requires c.index.ensures c.deref.result.now c.args.other c.contains.result c.deref.ensures.value
    c.contains.ensures.value
    ∙ c.if-contains.true) refl

pub returns-clause-added : goal.returns-clause-added
returns-clause-added c =
    WasNew
    (has_by c.args.self.now.rows.items c.args.state c.index.result.now c.requires c.index.ensures c.deref.result.now c.args.other c.contains.result c.deref.ensures.value
    c.contains.ensures.value
    ∙ c.if-contains.false)
    (row_put c.args.self.now.rows.items c.args.state c.index_mut.result.now c.requires c.index_mut.ensures.value c.index_mut.result.now c.push.new.self c.args.other refl
    c.in_ok-push.ensures.items)
    c.in_ok-push-2.ensures.items
