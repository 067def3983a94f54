-- The places of a report.
use Rattle.std.specs.Prelude.{◌≡◌, ℕ, List, [], ◌∷◌, map, string_bytes}
use Rattle.lrpar_grammar_places.specs.Span.{Extent}
use Rattle.lrpar_report_lines.specs.declared.reports.Report.{Report}

-- the places of the labels of a report, in order
abbrev pub label_spans : Report → List Extent
label_spans report = map (λ label. label.span) report.labels.items

-- what is said of these places, in order
abbrev pub label_texts : Report → List (List ℕ)
label_texts report = map (λ label. string_bytes label.text) report.labels.items

-- the notes of a report, in order
abbrev pub note_texts : Report → List (List ℕ)
note_texts report = map string_bytes report.notes.items

-- the report has this message
abbrev pub HasMessage : List ℕ → Report → Type 0
HasMessage message report = string_bytes report.message ≡ message

-- the report has no labels
abbrev pub HasNoLabels : Report → Type 0
HasNoLabels report = report.labels.items ≡ []

-- the report has no notes
abbrev pub HasNoNotes : Report → Type 0
HasNoNotes report = report.notes.items ≡ []

-- the report has no fixes
abbrev pub HasNoFixes : Report → Type 0
HasNoFixes report = report.fixes.items ≡ []

-- the report has one label, at this place
abbrev pub HasOneLabel : Extent → Report → Type 0
HasOneLabel span report = label_spans report ≡ span ∷ []
