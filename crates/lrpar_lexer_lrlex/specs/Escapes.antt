-- The escapes of a pattern of lrlex.
use Rattle.std.specs.Prelude.{◌≡◌, ℕ, ◌==◌, ◌&&◌, Bool, true, false, not, List, [], ◌∷◌, ◌++◌, String, chars, encode_utf8_all, if◌then◌else◌, string_bytes}
use Rattle.std.specs.Char.{is_ascii, is_ascii_alphabetic}
use Rattle.regex_syntax.specs.Reading.{◌∈◌}

-- the character after a backslash has a meaning in `regex`, which is also its meaning in lrlex
abbrev pub has_meaning : ℕ → Bool
has_meaning c =
    if c ∈ "<>" then false
    else if c ∈ "ABDPSUW" then true
    else if c ∈ "abdfnprstuvwxz" then true
    else is_ascii c && not (is_ascii_alphabetic c)

-- what is written for a character; the flag says that a backslash is before it, which isn't written yet
abbrev pub written : Bool → ℕ → List ℕ
written false c = if c == 92 then [] else c ∷ []
written true c = if has_meaning c then 92 ∷ c ∷ [] else c ∷ []

-- the characters without the backslashes that give the next character no meaning
abbrev pub without_needless : Bool → List ℕ → List ℕ
without_needless is_escaped [] = if is_escaped then 92 ∷ [] else []
without_needless is_escaped (c ∷ cs) = written is_escaped c ++ without_needless (not is_escaped && c == 92) cs

-- the text without the backslashes that give the next character no meaning
abbrev pub unescaped : List ℕ → List ℕ
unescaped text = encode_utf8_all (without_needless false (chars text))

-- these characters were appended to the text
abbrev pub AppendsChars : {A : Type 0} → List ℕ → String A → String A → Type 0
AppendsChars chars old new = string_bytes new ≡ string_bytes old ++ encode_utf8_all chars
