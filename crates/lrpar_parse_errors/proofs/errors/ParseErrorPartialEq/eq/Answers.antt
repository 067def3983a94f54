use Rattle.std.proofs.Common.{rules, refl}
use Rattle.lrpar_parse_lexemes.proofs.RepairLemmas.{repair_alike, answer_eq}
use Rattle.lrpar_parse_errors.proofs.errors.ParseErrorPartialEq.eq.Goals as goal

pub returns-then-eq-2 : goal.returns-then-eq-2
returns-then-eq-2 g c =
    let index = g.StorageT.StorageIndex.index in
    let eq = g.LexemeT.PartialEq.eq in
    let alike = repair_alike index eq _ (λ t u. g.met.StorageT.StorageIndex.eq_law t.0 u.0) (λ _ _. refl) (λ _ _. refl)
    (λ _ _. refl) (λ _ _. refl) (λ _ _. refl) (λ _ _. refl) (λ _ _. refl) (λ _ _. refl) in
    let compared = answer_eq index eq _ alike c.self.inside.repairs.items c.other.inside.repairs.items c.eq-then-eq-2.result
    c.eq-then-eq-2.ensures in
    search rules
