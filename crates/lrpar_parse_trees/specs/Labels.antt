-- Texts between double quotes, escaped as in labels of Graphviz.
use Rattle.std.specs.Prelude.{◌==◌, ◌||◌, ◌&&◌, ◌∷◌, if◌then◌else◌, ℕ, Bool, List, codes, encode_utf8, nat_lt}
use Rattle.std.specs.List.{flat_map}
use Rattle.std.specs.Str.{chars}
use Rattle.lrpar_parse_trees.specs.Escapes.{hex_escape}

-- whether a character is a control character: U+0000 to U+001F, or U+007F to U+009F
abbrev pub is_control : ℕ → Bool
is_control c = nat_lt c 32 || (nat_lt 126 c && nat_lt c 160)

-- a control character by its number, so that Graphviz shows this
abbrev pub shown_hex : ℕ → List ℕ
shown_hex c = 92 ∷ hex_escape c

-- A character of a label, escaped so that Graphviz shows `"`, `\` and `&` unchanged, a line feed as the end of a line, a tab as `\t`, a
-- carriage return as `\r`, and another control character as its number, like `\u0001`.
abbrev pub label_char : ℕ → List ℕ
label_char c =
    if c == 34 then codes "\\\""
    else if c == 92 then codes "\\\\"
    else if c == 10 then codes "\\n"
    else if c == 38 then codes "&amp;"
    else if c == 9 then codes "\\\\t"
    else if c == 13 then codes "\\\\r"
    else if is_control c then shown_hex c
    else encode_utf8 c

-- a text of UTF-8 bytes, character by character
abbrev pub label_text : List ℕ → List ℕ
label_text text = flat_map label_char (chars text)
