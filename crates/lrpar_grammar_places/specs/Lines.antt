-- Lines and columns of a text of UTF-8 bytes. A line starts at byte 0 and after each line feed; it ends before its
-- line feed, and the last one at the text's end.
use Rattle.std.specs.Prelude.{◌≡◌, ℕ, ◌+◌, ◌-◌, ◌*◌, ◌/◌, ◌==◌, Bool, not, List, length, count_by, filter, map, take, drop, slice_index, slice_range, Option, IfSome}
use Rattle.std.specs.List.{prefix_len, suffix_len, range_with_len}
use Rattle.std.specs.Str.{IsCharBoundary, IsUtf8, chars}

-- a line feed
abbrev pub is_line_feed : ℕ → Bool
is_line_feed byte = byte == 10

-- a byte that isn't a line feed
abbrev pub is_in_line : ℕ → Bool
is_in_line byte = not (is_line_feed byte)

-- the start of the line of byte i: back from i over all bytes that aren't line feeds
abbrev pub line_start : List ℕ → ℕ → ℕ
line_start text i = i - suffix_len is_in_line (take i text)

-- the end of the line of byte i: forward from i over all bytes that aren't line feeds
abbrev pub line_end : List ℕ → ℕ → ℕ
line_end text i = i + prefix_len is_in_line (drop i text)

-- the lines from that of byte i to that of byte j, without the last line feed
abbrev pub lines_of : List ℕ → ℕ → ℕ → List ℕ
lines_of text i j = slice_range text (line_start text i) (line_end text j)

-- the number of the line of byte i: one more than the line feeds before it
abbrev pub line_of : List ℕ → ℕ → ℕ
line_of text i = 1 + count_by is_line_feed (take i text)

-- the column of byte i: one more than the characters between its line's start and it
abbrev pub column_of : List ℕ → ℕ → ℕ
column_of text i = 1 + length (chars (slice_range text (line_start text i) i))

-- whether a line starts at byte i, which isn't the first: the byte before it is a line feed
abbrev pub starts_line : List ℕ → ℕ → Bool
starts_line text i = is_line_feed (slice_index text (i - 1))

-- a byte that begins a character; any other byte continues one
abbrev pub begins_char : ℕ → Bool
begins_char byte = not (byte / 64 == 2)

-- the number of characters that begin before byte i
abbrev pub chars_before : List ℕ → ℕ → ℕ
chars_before text i = count_by begins_char (take i text)

-- the numbers of characters that begin before the bytes 0, 128, 256 and so on, up to the end of the text
abbrev pub char_counts : List ℕ → List ℕ
char_counts text = map (λ k. chars_before text (k * 128)) (range_with_len 0 (length text / 128 + 1))

-- The starts of all lines but the first, ascending; the numbers of characters that begin before each 128th byte; and
-- the length of the text.
pub record LineTable : Type 0 where
  pub starts : List ℕ
  pub counts : List ℕ
  pub len : ℕ

-- the line table of a text
abbrev pub line_table : List ℕ → LineTable
line_table text = record { starts = filter (starts_line text) (range_with_len 1 (length text)); counts = char_counts text; len = length text }

-- in a text with these lines, this number of line feeds comes before the byte
abbrev pub AreLineFeedsBefore : LineTable → ℕ → ℕ → Type 0
AreLineFeedsBefore lines byte feeds = (text : List ℕ) → lines ≡ line_table text → feeds ≡ count_by is_line_feed (take byte text)

-- in a text with these lines, the byte is on the line with this number, if there is one
abbrev pub IsLineOf : LineTable → ℕ → Option ℕ → Type 0
IsLineOf lines byte found = (text : List ℕ) → lines ≡ line_table text → IfSome found (λ line. line ≡ line_of text byte)

-- in a text with these lines, the line of the byte starts here
abbrev pub IsLineStart : LineTable → ℕ → ℕ → Type 0
IsLineStart lines byte start = (text : List ℕ) → lines ≡ line_table text → start ≡ line_start text byte

-- in a text with these lines, the line of the byte ends here
abbrev pub IsLineEnd : LineTable → ℕ → ℕ → Type 0
IsLineEnd lines byte end = (text : List ℕ) → lines ≡ line_table text → end ≡ line_end text byte

-- a text with these lines can be cut here
abbrev pub IsBoundary : LineTable → ℕ → Type 0
IsBoundary lines byte = (text : List ℕ) → lines ≡ line_table text → IsUtf8 text → IsCharBoundary text byte

-- a text with these lines can be cut at both of these places
abbrev pub AreBoundaries : LineTable → ℕ × ℕ → Type 0
AreBoundaries lines ends = (text : List ℕ) → lines ≡ line_table text → IsUtf8 text → IsCharBoundary text ends.0 × IsCharBoundary text ends.1
