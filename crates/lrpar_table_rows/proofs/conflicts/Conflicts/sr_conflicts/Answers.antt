use Rattle.std.proofs.Common.{◌∙◌, ap, map}
use Rattle.lrpar_table_rows.specs.PlainConflicts.{shift_reduce_of}
use Rattle.lrpar_table_rows.proofs.conflicts.Conflicts.sr_conflicts.Goals as goal

pub returns : goal.returns
returns g c = ap (map (shift_reduce_of g.StorageT.StorageIndex.index)) c.deref.ensures.value ∙ ap (λ lists. lists.shift_reduce) c.self.view_is
