use Rattle.std.proofs.Common.{refl}
use Rattle.lrpar_parse_lexemes.proofs.RepairLemmas.{repair_alike}
use Rattle.lrpar_parse_lexemes.proofs.laws.repairs_are_compared_by_contents.Goals as goal

pub returns-clause-equal : goal.returns-clause-equal
returns-clause-equal g c =
    repair_alike g.StorageT.StorageIndex.index g.LexemeT.PartialEq.eq _ (λ t u. g.met.StorageT.StorageIndex.eq_law t.0 u.0) (λ _ _. refl) (λ _ _. refl)
    (λ _ _. refl) (λ _ _. refl) (λ _ _. refl) (λ _ _. refl) (λ _ _. refl) (λ _ _. refl)
