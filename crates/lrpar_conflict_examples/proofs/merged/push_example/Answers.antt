use Rattle.std.proofs.Common.{◌++◌}
use Rattle.lrpar_conflict_examples.specs.Conflicts.{ConflictExampleOf, unmet_in}
use Rattle.lrpar_conflict_examples.proofs.DealtLemmas.{to_front}
use Rattle.lrpar_conflict_examples.proofs.merged.push_example.Goals as goal

pub returns-clause-all : goal.returns-clause-all
returns-clause-all g c =
    let index = g.StorageT.StorageIndex.index in
    let old = c.args.found.now in
    to_front (λ (e : ConflictExampleOf). e.conflict) old.examples.items c.push.new.self.items c.args.example c.in_ok-push.ensures.items
    (unmet_in index old.unmet.items ++ unmet_in index old.merged.items)
