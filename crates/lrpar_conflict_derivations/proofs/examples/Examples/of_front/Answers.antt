use Rattle.std.proofs.Common.{refl, sym, subst}
use Rattle.lrpar_conflict_derivations.specs.Conflict.{IsExampleOf, conflict_of}
use Rattle.lrpar_conflict_derivations.specs.Example.{HasSearched}
use Rattle.lrpar_conflict_derivations.proofs.ExampleLemmas.{can_complete, still_example}
use Rattle.lrpar_conflict_derivations.proofs.SearchLemmas.{search_told}
use Rattle.lrpar_conflict_derivations.proofs.examples.Examples.of_front.Goals as goal

pub plain-requires-clause-parts : goal.plain-requires-clause-parts
plain-requires-clause-parts g c =
    can_complete c.args.grm.now c.args.sgraph.now c.args.stable.now 18446744073709551615 c.requires.built c.args.self.now c.requires.made _ _ refl refl

pub returns-in-None-clause-example : goal.returns-in-None-clause-example
returns-in-None-clause-example g c =
    let grm = c.args.grm.now in
    let graph = c.args.sgraph.now in
    let conflict = conflict_of g.StorageT.StorageIndex.index c.args.conflict.now in
    let plain = c.in_ok-plain.plain in
    subst (IsExampleOf grm graph conflict) (sym c.with_search.ensures)
    (still_example grm graph conflict plain c.tried.result c.is_over.result c.in_ok-plain.ensures.example)

pub returns-in-None-clause-searched : goal.returns-in-None-clause-searched
returns-in-None-clause-searched g c =
    let search = c.in_ok-found.search in
    let ends = rw c.in-None.is at c.in_ok-found.ensures.searched.2 in
    subst (HasSearched c.args.bound) (sym c.with_search.ensures)
    (search_told c.args.bound c.tried.result c.is_over.result search c.in_ok-plain.plain ends c.tried.ensures c.is_over.ensures)
