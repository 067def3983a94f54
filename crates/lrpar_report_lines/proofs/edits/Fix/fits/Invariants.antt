use Rattle.std.proofs.Common.{drop, map}
use Rattle.std.specs.Prelude.{◌↔◌}
use Rattle.lrpar_report_lines.specs.Edits.{AreInOrderFrom, CanBeEdited, replacement}
use Rattle.lrpar_report_lines.proofs.edits.Fix.fits.Given as goal

-- the edits so far are in order
abbrev pub invariant-loop-edit : goal.invariant-loop-edit
invariant-loop-edit l =
    let all = map replacement l.edit-items in
    CanBeEdited l.text all ↔ AreInOrderFrom l.text l.from (drop l.edit-index all)
