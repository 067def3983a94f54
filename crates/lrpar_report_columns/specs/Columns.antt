-- Lines of a text as they are printed, and the columns of its parts.
use Rattle.std.specs.Prelude.{◌≡◌, ℕ, ◌-◌, ◌==◌, ◌&&◌, nat_lt, Bool, false, List, [], ◌∷◌, ◌++◌, length, max, min, slice_index, slice_range, replicate, codes, chars, encode_utf8_all, if◌then◌else◌}
use Rattle.std.specs.Fmt.{decimal}
use Rattle.std.specs.Str.{IsUtf8}
use Rattle.unicode_width.specs.Width.{str_width}
use Rattle.lrpar_grammar_places.specs.Lines.{LineTable, line_end, line_of, line_table}
use Rattle.lrpar_grammar_places.specs.Span.{Extent}

-- a text of UTF-8 bytes with these lines
pub record HasLines (text : List ℕ) (lines : LineTable) : Type 0 where
  pub table : lines ≡ line_table text
  pub utf8 : ∥ IsUtf8 text ∥₁

-- how many columns the bytes from i up to j take
abbrev pub columns : List ℕ → ℕ → ℕ → ℕ
columns src i j = str_width false (chars (slice_range src i j))

-- a character, n times
abbrev pub repeated : ℕ → ℕ → List ℕ
repeated n c = encode_utf8_all (replicate n c)

-- whether the line from byte b to byte e has a CR directly before a line feed at e
abbrev pub ends_in_cr : List ℕ → ℕ → ℕ → Bool
ends_in_cr src b e = nat_lt b e && nat_lt e (length src) && (slice_index src (e - 1) == 13)

-- the byte at which the text of a line from byte b to byte e ends, without a CR directly before a line feed at e
abbrev pub without_cr : List ℕ → ℕ → ℕ → ℕ
without_cr src b e = if ends_in_cr src b e then e - 1 else e

-- the byte at which the text of the line that starts at byte b ends
abbrev pub text_end : List ℕ → ℕ → ℕ
text_end src b = without_cr src b (line_end src b)

-- what comes before the text of a line: its number and `| `
abbrev pub margin : List ℕ → ℕ → List ℕ
margin src b = decimal (line_of src b) ++ codes "| "

-- the line that starts at byte b as it is printed
abbrev pub printed_line : List ℕ → ℕ → List ℕ
printed_line src b = margin src b ++ slice_range src b (text_end src b) ++ 10 ∷ []

-- the byte at which the underline of a part starts in the line that starts at byte b: no earlier than the line, and no later than
-- its text ends
abbrev pub mark_start : List ℕ → Extent → ℕ → ℕ
mark_start src span b = min (max b span.start) (text_end src b)

-- the byte at which the underline of a part ends in the line that starts at byte b: no later than the line's text, and no earlier than the
-- underline starts
abbrev pub mark_end : List ℕ → Extent → ℕ → ℕ
mark_end src span b = max (min (text_end src b) span.end) (mark_start src span b)
