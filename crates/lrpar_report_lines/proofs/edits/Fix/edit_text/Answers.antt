use Rattle.std.proofs.Common.{◌+◌, ◌≡◌, ◌∷◌, ◌++◌, drop, map, ap}
use Rattle.std.specs.String.{string_bytes}
use Rattle.std.proofs.lemmas.Str.{IsCharBoundary-start}
use Rattle.lrpar_report_lines.specs.Edits.{edited_from, replacement}
use Rattle.lrpar_report_lines.proofs.EditLemmas.{drop_replacements, edited_more}
use Rattle.lrpar_report_lines.proofs.edits.Fix.edit_text.Goals as goal

pub loop-edit-init : goal.loop-edit-init
loop-edit-init c =
    let text = c.args.text.now in
    let all = map replacement c.deref-edit-items.result.now in
    λ can. record {
      boundary = IsCharBoundary-start text c.utf8.text;
      in_order = can;
      written = ap (λ o. o ++ edited_from text 0 all) c.new-out.ensures.bytes;
    }

pub loop-edit-preserved : goal.loop-edit-preserved
loop-edit-preserved c =
    let text = c.args.text.now in
    let items = c.deref-edit-items.result.now in
    let all = map replacement items in
    let i = c.loop-edit.edit-index in
    let edit = c.edit-item.result in
    let left : drop i all ≡ replacement edit ∷ drop (i + 1) all = drop_replacements items i edit c.loop-edit-test.true c.edit-item.is in
    λ can.
    edited_more text all (drop (i + 1) all) (drop i all) (replacement edit) c.loop-edit.from c.start.result c.end-from.result
    (string_bytes c.loop-edit.out) c.between.result.now (string_bytes c.push_str.new.self) c.as_str.result.now
    (string_bytes c.push_str-in-loop-edit.new.self) left (c.loop-edit.invariant can) c.start.ensures.start c.end-from.ensures.end
    c.between.ensures c.in_ok-push_str.ensures.bytes c.as_str.ensures.value c.in_ok-push_str-2.ensures.bytes
