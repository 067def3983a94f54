use Rattle.std.proofs.Common.{List, subst}
use Rattle.std.proofs.lemmas.Bool.{OnFalse_at, OnFalse_from, OnTrue_at, OnTrue_from}
use Rattle.lrpar_table_pops.specs.StoredPops.{any_of}
use Rattle.lrpar_table_pops.specs.Searched.{CanComplete, HasNoneGood, IsStackAt}
use Rattle.lrpar_table_pops.specs.declared.searched.Stack.{Stack}
use Rattle.lrpar_table_pops.proofs.SearchLemmas.{at_read, at_same}
use Rattle.lrpar_table_pops.proofs.searched.Searched.can_complete.Goals as goal

pub returns-in-Some-clause-completes : goal.returns-in-Some-clause-completes
returns-in-Some-clause-completes g c =
    let index = g.StorageT.StorageIndex.index in
    let found = c.in-Some.ensures.lookup in
    let at =
    subst (λ (l : List (Stack g.row.StorageT.Denot)). IsStackAt l c.args.place c.in-Some.stack.now) c.deref.ensures.value
    (at_read c.deref.result.now c.args.place c.in-Some.stack.now found.3.0 found.1) in
    OnTrue_from c.can_complete.result _ (λ is stack there.
    subst (λ (x : Stack g.row.StorageT.Denot). CanComplete index (any_of c.args.pops.now) x)
    (at_same c.args.self.now.stacks.items c.args.place c.in-Some.stack.now stack at there) (OnTrue_at is c.can_complete.ensures.can))

pub returns-in-Some-clause-none : goal.returns-in-Some-clause-none
returns-in-Some-clause-none g c =
    let index = g.StorageT.StorageIndex.index in
    let found = c.in-Some.ensures.lookup in
    let at =
    subst (λ (l : List (Stack g.row.StorageT.Denot)). IsStackAt l c.args.place c.in-Some.stack.now) c.deref.ensures.value
    (at_read c.deref.result.now c.args.place c.in-Some.stack.now found.3.0 found.1) in
    OnFalse_from c.can_complete.result _ (λ off stack there.
    subst (λ (x : Stack g.row.StorageT.Denot). HasNoneGood index (any_of c.args.pops.now) x)
    (at_same c.args.self.now.stacks.items c.args.place c.in-Some.stack.now stack at there) (OnFalse_at off c.can_complete.ensures.none))
