use Rattle.std.proofs.Common.{◌≡◌, ◌∷◌, [], ap, map, subst, sym, ◌∙◌}
use Rattle.std.specs.Str.{IsCharBoundary}
use Rattle.std.proofs.lemmas.Str.{IsCharBoundary-start}
use Rattle.lrpar_report_lines.specs.Labels.{label_spans}
use Rattle.lrpar_report_lines.specs.Places.{IsFirstPlace}
use Rattle.lrpar_report_lines.proofs.PlaceLemmas.{none_listed, place_of_first, place_of_none}
use Rattle.lrpar_report_lines.proofs.placed.PlacedFault.new.Goals as goal
use Rattle.lrpar_report_lines.proofs.placed.PlacedFault.new.Goals.{in-Some, in-None}

pub returns-clause-place : goal.returns-clause-place
returns-clause-place g c =
    let text = c.args.text.now in
    let labels = c.args.report.now.labels.items in
    let spans = label_spans c.args.report.now in
    elim c.match-split_first.branch [
      | in-Some w ↦
          let part = w.part_of-place.ensures in
          let first = w.in-Some.label.now in
          let rest = w.in-Some.field-0-1.now in
          let is : labels ≡ first ∷ rest = sym c.deref.ensures.value ∙ w.in-Some.ensures.cases.0 in
          subst (λ place. IsFirstPlace text spans place) (sym w.place-is)
          (place_of_first text spans first.span (map (λ label. label.span) rest) w.part_of-place.result (ap (map (λ label. label.span)) is)
          (record { start = part.start; end = part.end }))
      | in-None w ↦
          let part = w.part_of-place-in-None.ensures in
          let start = IsCharBoundary-start text c.utf8.text in
          let is : labels ≡ [] = sym c.deref.ensures.value ∙ none_listed c.deref.result.now w.in-None.ensures.cases in
          subst (λ place. IsFirstPlace text spans place) (sym w.place-is)
          (place_of_none text spans w.part_of-place-in-None.result (ap (map (λ label. label.span)) is)
          (part.same_start (subst (IsCharBoundary text) (sym w.new.ensures.start) start) ∙ w.new.ensures.start)
          (part.same_end (subst (IsCharBoundary text) (sym w.new.ensures.end) start) ∙ w.new.ensures.end))
    ]
