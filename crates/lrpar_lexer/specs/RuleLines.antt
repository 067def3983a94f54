-- The lines of a text of rules, and what a line reads as.
use Rattle.std.specs.Prelude.{◌≡◌, ◌≢◌, ℕ, ◌-◌, ◌<◌, ◌==◌, nat_lt, Bool, false, ◌||◌, IsTrue, List, [], ◌∷◌, ◌++◌, length, map, take, drop, filter, Option, Some, None, IfSome, MatchOption, option_map}
use Rattle.std.specs.Borrow.{Bor}
use Rattle.std.specs.List.{All, prefix_len, slice_split, suffix_len}
use Rattle.lrpar_grammar_places.specs.Lines.{is_line_feed}

-- the lines of a text: the parts between its line feeds
abbrev pub text_lines : List ℕ → List (List ℕ)
text_lines text = slice_split is_line_feed text

-- a space or a tab
abbrev pub is_blank : ℕ → Bool
is_blank byte = byte == 32 || byte == 9

-- a space, a tab or a carriage return
abbrev pub is_margin : ℕ → Bool
is_margin byte = is_blank byte || byte == 13

-- the text from its first byte on that fails a test
abbrev pub without_front : (ℕ → Bool) → List ℕ → List ℕ
without_front test text = drop (prefix_len test text) text

-- the text up to its last byte that fails a test
abbrev pub without_end : (ℕ → Bool) → List ℕ → List ℕ
without_end test text = take (length text - suffix_len test text) text

-- the line without spaces, tabs and carriage returns at its ends
abbrev pub core_of : List ℕ → List ℕ
core_of line = without_end is_margin (without_front is_margin line)

-- each line without spaces, tabs and carriage returns at its ends, but for the lines that are empty then
abbrev pub cores_of : List (List ℕ) → List (List ℕ)
cores_of lines = filter (λ core. nat_lt 0 (length core)) (map core_of lines)

abbrev pub quote : ℕ
quote = 39

abbrev pub semicolon : ℕ
semicolon = 59

-- the end of a line: a name between quotes, or a semicolon
abbrev pub ending_of : Option (List ℕ) → List ℕ
ending_of None = semicolon ∷ []
ending_of (Some name) = quote ∷ name ++ quote ∷ []

-- the line is `front` and then an ending: a name between quotes, in which there is no quote, or a semicolon
pub record HasEnding (line front : List ℕ) (name : Option (List ℕ)) : Type 0 where
  pub is : line ≡ front ++ ending_of name
  pub unquoted : IfSome name (All (λ byte. byte ≢ quote))

-- the text is a pattern and then at least one space or tab; the pattern isn't empty, and ends with neither of these
pub record HasGap (text pattern : List ℕ) : Type 0 where
  pub gap : List ℕ
  pub is : text ≡ pattern ++ gap
  pub some : 0 < length gap
  pub blank : All (λ byte. IsTrue (is_blank byte)) gap
  pub front : List ℕ
  pub last : ℕ
  pub ends : pattern ≡ front ++ last ∷ []
  pub solid : is_blank last ≡ false

-- what comes before the ending of the line, and the name of the ending, if it has one; nothing if the line has no ending
abbrev pub FindsEnding : List ℕ → Option (Bor (List ℕ) × Option (Bor (List ℕ))) → Type 0
FindsEnding line found =
    MatchOption found ((front : List ℕ) (name : Option (List ℕ)) → ¬ (HasEnding line front name))
    (λ parts. HasEnding line parts.0.now (option_map (λ name. name.now) parts.1))

-- the pattern before the spaces and tabs at the end of the text; nothing if the text isn't a pattern and then at least one of these
abbrev pub FindsGap : List ℕ → Option (Bor (List ℕ)) → Type 0
FindsGap text found = MatchOption found ((pattern : List ℕ) → ¬ (HasGap text pattern)) (λ pattern. HasGap text pattern.now)

-- the line reads as a pattern, and the name of a token or no name: the pattern, spaces and tabs, and the ending
pub record ReadsAs (line pattern : List ℕ) (name : Option (List ℕ)) : Type 0 where
  pub front : List ℕ
  pub ending : HasEnding line front name
  pub gap : HasGap front pattern

-- the pattern and the name that the line reads as; nothing if it reads as none
abbrev pub FindsParts : List ℕ → Option (Bor (List ℕ) × Option (Bor (List ℕ))) → Type 0
FindsParts line found =
    MatchOption found ((pattern : List ℕ) (name : Option (List ℕ)) → ¬ (ReadsAs line pattern name))
    (λ parts. ReadsAs line parts.0.now (option_map (λ name. name.now) parts.1))
