use Rattle.lrpar_table_rows.specs.PlainConflicts.{shift_reduce_of}
use Rattle.lrpar_conflict_derivations.proofs.ExampleLemmas.{shift_conflict}
use Rattle.lrpar_conflict_derivations.proofs.examples.Examples.of_shift_reduce.Goals as goal

pub of_conflict-requires-clause-conflict : goal.of_conflict-requires-clause-conflict
of_conflict-requires-clause-conflict g c =
    shift_conflict c.args.grm.now c.args.sgraph.now c.args.stable.now c.requires.built (shift_reduce_of g.StorageT.StorageIndex.index c.args.conflict.now) c.requires.member
