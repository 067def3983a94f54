use Rattle.lrpar_table_rows.specs.PlainConflicts.{reduce_reduce_of}
use Rattle.lrpar_conflict_derivations.proofs.ExampleLemmas.{between_conflict}
use Rattle.lrpar_conflict_derivations.proofs.examples.Examples.of_reduce_reduce.Goals as goal

pub of_conflict-requires-clause-conflict : goal.of_conflict-requires-clause-conflict
of_conflict-requires-clause-conflict g c =
    between_conflict c.args.grm.now c.args.sgraph.now c.args.stable.now c.requires.built (reduce_reduce_of g.StorageT.StorageIndex.index c.args.conflict.now) c.requires.member
