use Rattle.std.proofs.Common.{◌∙◌, List, subst, sym}
use Rattle.std.proofs.lemmas.Bool.{OnTrue_at, OnTrue_from}
use Rattle.lrpar_table_pops.specs.Searched.{IsStackAt}
use Rattle.lrpar_table_pops.specs.declared.searched.Stack.{Stack}
use Rattle.lrpar_table_pops.proofs.SearchLemmas.{at_read}
use Rattle.lrpar_table_pops.proofs.searched.Searched.covers.Goals as goal

pub returns-then-from : goal.returns-then-from
returns-then-from g c =
    let stack = c.in-Some.stack.now in
    let found = c.in-Some.ensures.lookup in
    let at =
    subst (λ (l : List (Stack g.row.StorageT.Denot)). IsStackAt l c.args.place stack) c.deref.ensures.value
    (at_read c.deref.result.now c.args.place stack found.3.0 found.1) in
    OnTrue_from c.cover.result _ (λ is.
    (c.args.place, stack, at, sym c.from.ensures ∙ c.if-from.true ∙ c.from-in-Some.ensures, OnTrue_at is c.cover.ensures))
