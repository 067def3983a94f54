use Rattle.std.proofs.Common.{◌∙◌, ap, map}
use Rattle.lrpar_table_rows.specs.PlainConflicts.{resolved_conflict_of}
use Rattle.lrpar_table_rows.proofs.resolved.Resolved.as_slice.Goals as goal

pub returns : goal.returns
returns g c = ap (map (resolved_conflict_of g.StorageT.StorageIndex.index)) c.deref.ensures.value ∙ c.self.view_is
