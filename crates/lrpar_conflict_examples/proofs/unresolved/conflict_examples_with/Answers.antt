use Rattle.std.proofs.Common.{◌∙◌, ap, subst}
use Rattle.lrpar_table_build.specs.BuilderLaws.{lists_in}
use Rattle.lrpar_conflict_examples.specs.Conflicts.{AreExamplesOf, unmet_in}
use Rattle.lrpar_conflict_examples.specs.Met.{conflicts_left, marked_ones, other_ones}
use Rattle.lrpar_conflict_examples.proofs.LeftLemmas.{among_left}
use Rattle.lrpar_conflict_examples.proofs.unresolved.conflict_examples_with.Goals as goal

pub examples_of-requires-clause-listed : goal.examples_of-requires-clause-listed
examples_of-requires-clause-listed g c =
    let index = g.StorageT.StorageIndex.index in
    among_left c.args.precedences.now c.deref.result.now (lists_in c.args.stable.now.conflicts) (unmet_in index c.deref-2.result.now)
    (ap (unmet_in index) c.deref-2.ensures.value ∙ c.in_ok-met.ensures.met)

pub returns-clause-left : goal.returns-clause-left
returns-clause-left g c =
    let index = g.StorageT.StorageIndex.index in
    let left = conflicts_left c.args.precedences.now (lists_in c.args.stable.now.conflicts) in
    record {
      marks = c.in_ok-marks.marks.items;
      met = c.in_ok-marks.ensures;
      examples =
          subst (λ xs. AreExamplesOf c.args.grm.now c.args.sgraph.now c.args.bound xs c.in_ok-examples.examples.items)
          (ap (unmet_in index) c.deref-2.ensures.value ∙ c.in_ok-met.ensures.met ∙ ap (λ m. marked_ones m left) c.deref.ensures.value)
          c.in_ok-examples.ensures.examples;
      unmet = c.in_ok-met.ensures.unmet ∙ ap (λ m. other_ones m left) c.deref.ensures.value;
    }
