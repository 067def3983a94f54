-- Edits of a text, and the text after them.
use Rattle.std.specs.Prelude.{ℕ, List, [], ◌∷◌, ◌++◌, drop, map, slice_range, string_bytes}
use Rattle.lrpar_grammar_places.specs.Span.{Extent}
use Rattle.lrpar_report_lines.specs.Places.{IsPartFrom}
use Rattle.lrpar_report_lines.specs.declared.edits.Edit.{Edit}
use Rattle.lrpar_report_lines.specs.declared.edits.Fix.{Fix}

-- a part of a text, and the bytes that it becomes
pub record Replacement : Type 0 where
  pub part : Extent
  pub text : List ℕ

-- an edit as a replacement
abbrev pub replacement : Edit → Replacement
replacement edit = record { part = edit.span; text = string_bytes edit.text }

-- the edits of a fix as replacements, in order
abbrev pub replacements : Fix → List Replacement
replacements fix = map replacement fix.edits.items

-- each part is one of the text, the first starts no earlier than this byte, and each other one no earlier than the one before it ends
abbrev pub AreInOrderFrom : List ℕ → ℕ → List Replacement → Type 0
AreInOrderFrom text byte [] = Unit {0}
AreInOrderFrom text byte (r ∷ rs) = IsPartFrom text byte r.part × AreInOrderFrom text r.part.end rs

-- the text can be edited so: each part is one of the text, and starts no earlier than the one before it ends
abbrev pub CanBeEdited : List ℕ → List Replacement → Type 0
CanBeEdited text rs = AreInOrderFrom text 0 rs

-- the text from this byte on, with each part replaced by its bytes
abbrev pub edited_from : List ℕ → ℕ → List Replacement → List ℕ
edited_from text byte [] = drop byte text
edited_from text byte (r ∷ rs) = slice_range text byte r.part.start ++ r.text ++ edited_from text r.part.end rs

-- the text with each part replaced by its bytes
abbrev pub edited : List ℕ → List Replacement → List ℕ
edited text rs = edited_from text 0 rs
