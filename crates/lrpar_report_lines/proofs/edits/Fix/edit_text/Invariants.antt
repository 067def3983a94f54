use Rattle.std.proofs.Common.{drop, map}
use Rattle.std.specs.Prelude.{string_bytes}
use Rattle.lrpar_report_lines.specs.Edits.{CanBeEdited, replacement}
use Rattle.lrpar_report_lines.proofs.EditLemmas.{IsEditedTo}
use Rattle.lrpar_report_lines.proofs.edits.Fix.edit_text.Given as goal

-- the edits so far are made
abbrev pub invariant-loop-edit : goal.invariant-loop-edit
invariant-loop-edit l =
    let all = map replacement l.edit-items in
    CanBeEdited l.text all → IsEditedTo l.text all (drop l.edit-index all) l.from (string_bytes l.out)
