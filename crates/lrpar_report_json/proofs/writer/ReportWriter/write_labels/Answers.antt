use Rattle.std.specs.List.{flat_map}
use Rattle.std.specs.Prelude.{codes}
use Rattle.std.proofs.lemmas.Result.{on_ok_weaker}
use Rattle.lrpar_report_json.specs.Tokens.{label_object}
use Rattle.lrpar_report_json.proofs.WriterLemmas.{with_json, writes_items, writes_list, writes_one}
use Rattle.lrpar_report_json.proofs.writer.ReportWriter.write_labels.Goals as goal

pub returns : goal.returns
returns c =
    let old = c.args.self.now in
    let text = old.lines.now in
    let labels = c.args.labels.now in
    let named = with_json old c.key.new.self in
    let begin = with_json old c.begin_array.new.self in
    let items = c.loop-label.self in
    let new = with_json items c.end_array.new.self in
    let first = writes_one _ old c.key.new.self _ c.in_ok-key.ensures in
    let second = writes_one _ named c.begin_array.new.self _ c.in_ok-begin_array.ensures in
    let third = writes_items (label_object text) begin items labels c.loop-label.label-index c.loop-label-test.false c.loop-label.invariant in
    on_ok_weaker c.end_array.result (λ last. writes_list old named begin items new (codes "labels") (flat_map (label_object text) labels) first second third last)
    (writes_one c.end_array.result items c.end_array.new.self _ c.end_array.ensures)
