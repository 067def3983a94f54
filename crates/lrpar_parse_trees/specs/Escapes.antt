-- Texts between double quotes, escaped as in JSON.
use Rattle.std.specs.Prelude.{◌==◌, ◌+◌, ◌/◌, ◌%◌, ◌∷◌, if◌then◌else◌, ℕ, List, [], encode_utf8, nat_lt}
use Rattle.std.specs.List.{flat_map}
use Rattle.std.specs.Str.{chars}

-- a hexadecimal digit, in lower case
abbrev pub hex_digit : ℕ → ℕ
hex_digit n = if nat_lt n 10 then n + 48 else n + 87

-- a control character by its number: `\u00` and two digits
abbrev pub hex_escape : ℕ → List ℕ
hex_escape n = 92 ∷ 117 ∷ 48 ∷ 48 ∷ hex_digit (n / 16) ∷ hex_digit (n % 16) ∷ []

-- a character: `"` and `\` after a `\`, line feed, carriage return and tab as a letter, other control characters as numbers
abbrev pub escaped_char : ℕ → List ℕ
escaped_char c =
    if c == 34 then 92 ∷ 34 ∷ []
    else if c == 92 then 92 ∷ 92 ∷ []
    else if c == 10 then 92 ∷ 110 ∷ []
    else if c == 13 then 92 ∷ 114 ∷ []
    else if c == 9 then 92 ∷ 116 ∷ []
    else if nat_lt c 32 then hex_escape c
    else encode_utf8 c

-- a text of UTF-8 bytes, character by character
abbrev pub escaped : List ℕ → List ℕ
escaped text = flat_map escaped_char (chars text)
