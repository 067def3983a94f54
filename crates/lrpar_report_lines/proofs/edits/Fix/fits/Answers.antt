use Rattle.std.proofs.Common.{◌+◌, ◌≡◌, ◌∷◌, drop, map, rules, subst, sym}
use Rattle.std.specs.Prelude.{◌↔◌}
use Rattle.lrpar_report_lines.specs.Edits.{AreInOrderFrom, CanBeEdited, replacement}
use Rattle.lrpar_report_lines.specs.Places.{IsPartFrom}
use Rattle.lrpar_report_lines.proofs.EditLemmas.{drop_replacements, in_order_more, out_of_order}
use Rattle.lrpar_report_lines.proofs.edits.Fix.fits.Goals as goal

pub returns-then-not-is_part_from : goal.returns-then-not-is_part_from
returns-then-not-is_part_from c =
    let text = c.args.text.now in
    let items = c.deref-edit-items.result.now in
    let all = map replacement items in
    let i = c.loop-edit.edit-index in
    let edit = c.edit-item.result in
    let left : drop i all ≡ replacement edit ∷ drop (i + 1) all = drop_replacements items i edit c.loop-edit-test.true c.edit-item.is in
    let outside : IsPartFrom text c.loop-edit.from edit.span → ⊥ = λ part. search (rules, c.if-not-is_part_from.ensures, part) in
    let refused : CanBeEdited text all → ⊥ =
    out_of_order text c.loop-edit.from all (drop (i + 1) all) (drop i all) (replacement edit) left outside c.loop-edit.invariant in
    ((λ h. absurd (search rules)), (λ can. absurd (refused (subst (λ es. CanBeEdited text (map replacement es)) (sym c.deref-edit-items.ensures.value) can))))

pub loop-edit-preserved : goal.loop-edit-preserved
loop-edit-preserved c =
    let text = c.args.text.now in
    let items = c.deref-edit-items.result.now in
    let all = map replacement items in
    let i = c.loop-edit.edit-index in
    let edit = c.edit-item.result in
    let left : drop i all ≡ replacement edit ∷ drop (i + 1) all = drop_replacements items i edit c.loop-edit-test.true c.edit-item.is in
    let part : IsPartFrom text c.loop-edit.from edit.span = search (rules, c.if-not-is_part_from.ensures) in
    let more : CanBeEdited text all ↔ AreInOrderFrom text edit.span.end (drop (i + 1) all) =
    in_order_more text c.loop-edit.from all (drop (i + 1) all) (drop i all) (replacement edit) left part c.loop-edit.invariant in
    subst (λ byte. CanBeEdited text all ↔ AreInOrderFrom text byte (drop (i + 1) all)) (sym c.end-from.ensures.end) more
