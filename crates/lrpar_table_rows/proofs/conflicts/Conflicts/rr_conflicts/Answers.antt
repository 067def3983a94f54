use Rattle.std.proofs.Common.{◌∙◌, ap, map}
use Rattle.lrpar_table_rows.specs.PlainConflicts.{reduce_reduce_of}
use Rattle.lrpar_table_rows.proofs.conflicts.Conflicts.rr_conflicts.Goals as goal

pub returns : goal.returns
returns g c = ap (map (reduce_reduce_of g.StorageT.StorageIndex.index)) c.deref.ensures.value ∙ ap (λ lists. lists.reduce_reduce) c.self.view_is
