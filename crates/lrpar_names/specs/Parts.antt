-- Parts of a text, with their places.
use Rattle.std.specs.Prelude.{ℕ, ◌+◌, ◌-◌, ◌==◌, ◌||◌, ◌&&◌, Bool, List, [], ◌∷◌, length, take, drop, get_or, Option, Some, None, if◌then◌else◌, nat_lt, bytes_eq, codes, is_some, option_map}
use Rattle.std.specs.List.{after_first, before_first, position_or_len, prefix_len, slice_split, suffix_len}
use Rattle.lrpar_grammar_places.specs.declared.span.Span.{Span}
use Rattle.lrpar_names.specs.declared.part.Part as code

-- the bytes of a part of a text, and where it starts
pub record Part : Type 0 where
  pub start : ℕ
  pub bytes : List ℕ

-- a part as it is stored, by its bytes and where it starts
abbrev pub plain : code.Part → Part
plain p = record { start = p.start; bytes = p.text.now }

-- a part as it is stored, if there is one
abbrev pub plain_if : Option code.Part → Option Part
plain_if p = option_map (λ p. plain p) p

-- all of a text
abbrev pub whole : List ℕ → Part
whole text = record { start = 0; bytes = text }

-- the place of a part
abbrev pub span_of : Part → Span
span_of p = record { start = p.start; end = p.start + length p.bytes }

-- a space, a tab, a carriage return or a line feed
abbrev pub is_white : ℕ → Bool
is_white byte = byte == 32 || byte == 9 || byte == 13 || byte == 10

-- the text from its first byte on that fails a test
abbrev pub without_front : (ℕ → Bool) → List ℕ → List ℕ
without_front test text = drop (prefix_len test text) text

-- the text up to its last byte that fails a test
abbrev pub without_end : (ℕ → Bool) → List ℕ → List ℕ
without_end test text = take (length text - suffix_len test text) text

-- the part without what is white at its ends
abbrev pub trimmed : Part → Part
trimmed p = record { start = p.start + prefix_len is_white p.bytes; bytes = without_end is_white (without_front is_white p.bytes) }

-- what comes before the first byte with this value: all, if there is none
abbrev pub before_cut : ℕ → Part → Part
before_cut byte p = record { start = p.start; bytes = before_first (λ b. b == byte) p.bytes }

-- what comes after the first byte with this value, if there is one
abbrev pub after_cut : ℕ → Part → Option Part
after_cut byte p =
    let at = position_or_len (λ b. b == byte) p.bytes in
    if nat_lt at (length p.bytes) then Some (record { start = p.start + (at + 1); bytes = after_first (λ b. b == byte) p.bytes }) else None

-- the part without its first byte, if that has this value
abbrev pub after_byte : ℕ → Part → Option Part
after_byte byte p =
    if nat_lt 0 (length p.bytes) && (get_or p.bytes 0 0 == byte) then Some (record { start = p.start + 1; bytes = drop 1 p.bytes }) else None

-- parts of a text that begins at byte `start`, with one byte between each two
abbrev pub parts_from : ℕ → List (List ℕ) → List Part
parts_from start [] = []
parts_from start (bytes ∷ more) = record { start = start; bytes = bytes } ∷ parts_from (start + (length bytes + 1)) more

-- the parts between the bytes of this value
abbrev pub pieces : ℕ → Part → List Part
pieces byte p = parts_from p.start (slice_split (λ b. b == byte) p.bytes)

-- the parts between the bytes of this value in what is left; none if nothing is left
abbrev pub pieces_left : ℕ → Option Part → List Part
pieces_left byte None = []
pieces_left byte (Some p) = pieces byte p

-- the part without that word, if it begins with it
abbrev pub after_word : List ℕ → Part → Option Part
after_word word p =
    if bytes_eq (take (length word) p.bytes) word then Some (record { start = p.start + length word; bytes = drop (length word) p.bytes }) else None

-- the part begins with `//`
abbrev pub is_comment : Part → Bool
is_comment p = is_some (after_word (codes "//") p)
