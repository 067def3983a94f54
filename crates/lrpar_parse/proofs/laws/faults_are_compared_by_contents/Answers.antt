use Rattle.std.proofs.Common.{refl}
use Rattle.lrpar_parse.proofs.FaultComparisonLemmas.{fault_alike}
use Rattle.lrpar_parse.proofs.laws.faults_are_compared_by_contents.Goals as goal

pub returns : goal.returns
returns c =
    fault_alike _ (λ _ _. refl) (λ _ _. refl) refl (λ _ _. refl) (λ _. refl) (λ _ _. refl) (λ _. refl) (λ _. refl) (λ _. refl)
