-- Reports as JSON (RFC 8259): their tokens, in order.
use Rattle.std.specs.Prelude.{ℕ, List, [], ◌∷◌, ◌++◌, codes, decimal, map, string_bytes, String}
use Rattle.std.specs.List.{flat_map}
use Rattle.json.specs.Print.{print}
use Rattle.json.specs.Token.{Token, begin_object, end_object, begin_array, end_array, key, string, number}
use Rattle.lrpar_grammar_places.specs.Lines.{column_of, line_of}
use Rattle.lrpar_grammar_places.specs.Span.{Extent}
use Rattle.lrpar_report_lines.specs.Levels.{level_word}
use Rattle.lrpar_report_lines.specs.declared.edits.Edit.{Edit}
use Rattle.lrpar_report_lines.specs.declared.edits.Fix.{Fix}
use Rattle.lrpar_report_lines.specs.declared.reports.Label.{Label}
use Rattle.lrpar_report_lines.specs.declared.reports.Report.{Report}
use Rattle.lrpar_report_json.specs.Places.{moved_part}

-- a text, and the path by which reports name it
pub record Source : Type 0 where
  pub path : List ℕ
  pub text : List ℕ

-- a member of an object whose value is a text
abbrev pub text_member : List ℕ → List ℕ → List Token
text_member name text = key name ∷ string text ∷ []

-- a member of an object whose value is a number
abbrev pub number_member : List ℕ → ℕ → List Token
number_member name n = key name ∷ number (decimal n) ∷ []

-- a member of an object whose value is an array of these items
abbrev pub list_member : List ℕ → List Token → List Token
list_member name items = key name ∷ begin_array ∷ (items ++ end_array ∷ [])

-- the ends of a part, in bytes of the text, as members
abbrev pub ends_of : Extent → List Token
ends_of part = number_member (codes "start") part.start ++ number_member (codes "end") part.end

-- the line and the column of a byte, each counted from 1, and columns in characters, as members with these names
abbrev pub place_of : ℕ → List ℕ → List ℕ → List ℕ → List Token
place_of byte line column text = number_member line (line_of text byte) ++ number_member column (column_of text byte)

-- the members of a part of the text: its ends, with their lines and columns, and what is said of it, or what it becomes
abbrev pub members_of : Extent → List ℕ → List ℕ → List Token
members_of part said text =
    ends_of part ++ place_of part.start (codes "line") (codes "column") text
    ++ place_of part.end (codes "end_line") (codes "end_column") text ++ text_member (codes "text") said

-- a part of the text as an object, at the place to which it is moved
abbrev pub part_object : Extent → List ℕ → List ℕ → List Token
part_object span said text = begin_object ∷ (members_of (moved_part text span) said text ++ end_object ∷ [])

-- a label as an object
abbrev pub label_object : List ℕ → Label → List Token
label_object text label = part_object label.span (string_bytes label.text) text

-- an edit as an object
abbrev pub edit_object : List ℕ → Edit → List Token
edit_object text edit = part_object edit.span (string_bytes edit.text) text

-- the edits of a fix as a member
abbrev pub edits_of : List Edit → List ℕ → List Token
edits_of edits text = list_member (codes "edits") (flat_map (edit_object text) edits)

-- a fix as an object
abbrev pub fix_object : Fix → List ℕ → List Token
fix_object fix text =
    begin_object ∷ (text_member (codes "message") (string_bytes fix.message)
    ++ edits_of fix.edits.items text ++ end_object ∷ [])

-- the path of the text, what the report is, and what is wrong, as members
abbrev pub title_of : List ℕ → Report → List Token
title_of path report =
    text_member (codes "path") path ++ text_member (codes "severity") (level_word report.level)
    ++ text_member (codes "message") (string_bytes report.message)

-- the labels of a report as a member
abbrev pub labels_of : List Label → List ℕ → List Token
labels_of labels text = list_member (codes "labels") (flat_map (label_object text) labels)

-- the notes of a report as a member
abbrev pub notes_of : {A : Type 0} → List (String A) → List Token
notes_of notes = list_member (codes "notes") (map (λ note. string (string_bytes note)) notes)

-- the fixes of a report as a member
abbrev pub fixes_of : List Fix → List ℕ → List Token
fixes_of fixes text = list_member (codes "fixes") (flat_map (λ fix. fix_object fix text) fixes)

-- the labels, the notes and the fixes of a report, as members
abbrev pub lists_of : Report → List ℕ → List Token
lists_of report text =
    labels_of report.labels.items text ++ notes_of report.notes.items ++ fixes_of report.fixes.items text

-- a report about a text as an object, with the path of the text
abbrev pub report_object : List ℕ → Report → List ℕ → List Token
report_object path report text = begin_object ∷ (title_of path report ++ lists_of report text ++ end_object ∷ [])

-- the report as JSON, with a line feed
abbrev pub json_line : Source → Report → List ℕ
json_line source report = print (report_object source.path report source.text) ++ 10 ∷ []
