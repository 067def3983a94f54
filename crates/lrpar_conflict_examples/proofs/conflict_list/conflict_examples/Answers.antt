use Rattle.std.proofs.Common.{◌∙◌, ap, subst}
use Rattle.std.specs.List.{Contains}
use Rattle.std.specs.Prelude.{IfOk}
use Rattle.std.proofs.lemmas.Result.{IfOk-weaker}
use Rattle.lrpar_conflict_examples.specs.Conflicts.{AllSearched, AreExamplesOf, unmet_in}
use Rattle.lrpar_conflict_examples.proofs.ListedLemmas.{examples_searched}
use Rattle.lrpar_conflict_examples.proofs.conflict_list.conflict_examples.Goals as goal

pub examples_of-requires-clause-listed : goal.examples_of-requires-clause-listed
examples_of-requires-clause-listed g c =
    let index = g.StorageT.StorageIndex.index in
    λ x there. subst (λ l. Contains l x) (ap (unmet_in index) c.deref.ensures.value ∙ c.in_ok-listed.ensures) there

pub returns-clause-examples : goal.returns-clause-examples
returns-clause-examples g c =
    let index = g.StorageT.StorageIndex.index in
    subst (λ xs. IfOk c.examples_of.result (λ examples. AreExamplesOf c.args.grm.now c.args.sgraph.now c.args.bound xs examples.items))
    (ap (unmet_in index) c.deref.ensures.value ∙ c.in_ok-listed.ensures) c.examples_of.ensures.examples

pub returns-clause-searched : goal.returns-clause-searched
returns-clause-searched g c =
    IfOk-weaker c.examples_of.result _ (AllSearched c.args.bound)
    (λ examples made. examples_searched c.args.grm.now c.args.sgraph.now c.args.bound examples.items made.each) c.examples_of.ensures.examples
