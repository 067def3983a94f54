use Rattle.lrpar_conflict_examples.proofs.ReasonLemmas.{if_build, if_example}
use Rattle.lrpar_conflict_examples.proofs.merged.Canonical.new.Goals as goal

pub returns-clause-canonical : goal.returns-clause-canonical
returns-clause-canonical g c = record {
  ready = record { built = c.in_ok-sgraph.ensures.built; made = c.in_ok-shared.ensures.made };
  listed = c.in_ok-listed.ensures;
}

pub returns-clause-compared : goal.returns-clause-compared
returns-clause-compared g c = record { met = c.in_ok-marks.ensures; pairs = c.in_ok-pairs.ensures }

pub returns-in_err-sgraph-clause-refused : goal.returns-in_err-sgraph-clause-refused
returns-in_err-sgraph-clause-refused g c =
    if_build g.StorageT.StorageIndex.index c.args.grm.now c.args.max_states g.StorageT.StorageIndex.limit c.from_residual.result c.in_err-sgraph.field-0.0
    c.from_residual.ensures.1 c.in_err-sgraph.ensures.refused

pub returns-in_err-shared-clause-refused : goal.returns-in_err-shared-clause-refused
returns-in_err-shared-clause-refused g c =
    if_example g.StorageT.StorageIndex.index c.args.grm.now c.args.max_states g.StorageT.StorageIndex.limit c.from_residual-in_err-shared.result
    c.in_err-shared.field-0.0 c.from_residual-in_err-shared.ensures.1 c.in_err-shared.ensures.refused
