use Rattle.std.proofs.Common.{rules, tests}
use Rattle.std.proofs.lemmas.Iterator.{YieldsList-from_slice}
use Rattle.lrpar_table_rows.specs.ConflictsFit.{ShiftFits}
use Rattle.lrpar_table_rows.specs.PlainConflicts.{shift_reduce_of}
use Rattle.lrpar_table_rows.proofs.Mapped.{images_by_test}
use Rattle.lrpar_table_rows.proofs.conflicts.Conflicts.all_shifts_fit.Goals as goal

pub returns : goal.returns
returns g c =
    rw (← c.self.view_is)
    (images_by_test (ShiftFits c.args.grm.now) (shift_reduce_of g.StorageT.StorageIndex.index) _ _ c.all.result c.all.ensures.ran
    (YieldsList-from_slice c.self.inside.sr.items cc) (λ x b q k. search (rules, tests)))
