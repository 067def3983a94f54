use Rattle.std.proofs.Common.{◌∙◌}
use Rattle.lrpar_parse_lexemes.proofs.RepairLemmas.{repairs_clone}
use Rattle.lrpar_parse_errors.proofs.FailureLemmas.{same_repairs}
use Rattle.lrpar_parse_errors.proofs.errors.ParseErrorClone.clone.Goals as goal

pub returns : goal.returns
returns g c =
    let index = g.StorageT.StorageIndex.index in
    let cloned = repairs_clone index c.self.inside.repairs.items c.in_ok-clone.field-0.items c.in_ok-clone.ensures.cases.0 in
    record { cases = same_repairs (index c.self.inside.stidx.0) c.self.inside.lexeme _ _ cloned ∙ c.self.view_is }
