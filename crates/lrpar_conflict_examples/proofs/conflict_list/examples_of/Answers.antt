use Rattle.lrpar_table_build.specs.BuilderLaws.{lists_in}
use Rattle.lrpar_conflict_examples.specs.Conflicts.{unmet_in}
use Rattle.lrpar_conflict_examples.proofs.ListedLemmas.{examples_fit}
use Rattle.lrpar_conflict_examples.proofs.conflict_list.examples_of.Goals as goal

pub returns-clause-fit : goal.returns-clause-fit
returns-clause-fit g c =
    examples_fit c.args.grm.now c.args.sgraph.now c.args.bound (lists_in c.args.stable.now.conflicts)
    (unmet_in g.StorageT.StorageIndex.index c.args.conflicts.now) c.in_ok-examples.examples.items c.requires.built.fit c.requires.listed c.in_ok-examples.ensures
