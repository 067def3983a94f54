use Rattle.std.proofs.Common.{refl}
use Rattle.lrpar_parse_repair.proofs.StepComparisonLemmas.{step_alike}
use Rattle.lrpar_parse_repair.proofs.laws.steps_are_compared_by_contents.Goals as goal

pub returns-clause-equal : goal.returns-clause-equal
returns-clause-equal g c =
    step_alike g.StorageT.StorageIndex.index _ (λ t u. g.met.StorageT.StorageIndex.eq_law t.0 u.0) refl refl
    (λ _. refl) (λ _. refl) (λ _. refl) refl (λ _. refl) refl
