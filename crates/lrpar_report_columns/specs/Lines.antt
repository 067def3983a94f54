-- Where lines and their underlines start and end, and what is between two bytes. Nothing is said of bytes after the text's end.
use Rattle.std.specs.Prelude.{◌≡◌, ◌≤◌, ℕ, List, length, slice_range}
use Rattle.std.specs.Str.{IsCharBoundary}
use Rattle.lrpar_grammar_places.specs.Lines.{line_end, line_of, line_start}
use Rattle.lrpar_grammar_places.specs.Span.{Extent}
use Rattle.lrpar_report_columns.specs.Columns.{columns, mark_end, mark_start, text_end}

-- the line of the byte has this number
abbrev pub IsNumberOfLine : List ℕ → ℕ → ℕ → Type 0
IsNumberOfLine text byte number = byte ≤ length text → number ≡ line_of text byte

-- the line of the byte starts here
abbrev pub IsStartOfLine : List ℕ → ℕ → ℕ → Type 0
IsStartOfLine text byte start = byte ≤ length text → start ≡ line_start text byte

-- the line of the byte ends here, before its line feed
abbrev pub IsEndOfLine : List ℕ → ℕ → ℕ → Type 0
IsEndOfLine text byte end = byte ≤ length text → end ≡ line_end text byte

-- the text of the line that starts at byte b ends here, before its line feed and a CR directly before that
abbrev pub IsEndOfText : List ℕ → ℕ → ℕ → Type 0
IsEndOfText text b end = b ≤ length text → end ≡ text_end text b

-- the underline of the part starts here in the line that starts at byte b
abbrev pub IsStartOfMark : List ℕ → Extent → ℕ → ℕ → Type 0
IsStartOfMark text part b from = b ≤ length text → from ≡ mark_start text part b

-- the underline of the part ends here in the line that starts at byte b
abbrev pub IsEndOfMark : List ℕ → Extent → ℕ → ℕ → Type 0
IsEndOfMark text part b to = b ≤ length text → to ≡ mark_end text part b

-- the text can be cut at both of these bytes
abbrev pub AreCharBoundaries : List ℕ → ℕ × ℕ → Type 0
AreCharBoundaries text ends = IsCharBoundary text ends.0 × IsCharBoundary text ends.1

-- the bytes from i up to j take so many columns
abbrev pub AreColumnsOf : List ℕ → ℕ → ℕ → ℕ → Type 0
AreColumnsOf text i j count = IsCharBoundary text i → IsCharBoundary text j → i ≤ j → count ≡ columns text i j

-- the bytes from i up to j are this text
abbrev pub IsTextBetween : List ℕ → ℕ → ℕ → List ℕ → Type 0
IsTextBetween text i j part = IsCharBoundary text i → IsCharBoundary text j → i ≤ j → part ≡ slice_range text i j
