-- Where a byte or a part of a text is moved, as a function of both.
use Rattle.std.specs.Prelude.{ℕ, zero, suc, Bool, List, [], ◌∷◌, ◌&&◌, nat_le, nat_lt, if◌then◌else◌}
use Rattle.lrpar_grammar_places.specs.Span.{Extent}

-- whether a byte goes on with a character of UTF-8
abbrev pub goes_on : ℕ → Bool
goes_on b = nat_le 128 b && nat_lt b 192

-- the boundary of characters to which a byte of a text is moved: the next one from the byte on, and the text's end if the byte is after it
abbrev pub moved_byte : List ℕ → ℕ → ℕ
moved_byte [] byte = zero
moved_byte (b ∷ bs) zero = if goes_on b then suc (moved_byte bs zero) else zero
moved_byte (b ∷ bs) (suc byte) = suc (moved_byte bs byte)

-- the part to which a part of a text is moved: each end to its boundary
abbrev pub moved_part : List ℕ → Extent → Extent
moved_part text span = record { start = moved_byte text span.start; end = moved_byte text span.end }
