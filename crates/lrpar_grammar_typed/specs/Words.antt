-- Words of a text by their places.
use Rattle.std.specs.Prelude.{◌≡◌, ℕ, List}
use Rattle.std.specs.Str.{trim}
use Rattle.lrpar_grammar_places.specs.Span.{Extent}
use Rattle.lrpar_lexer.specs.TextParts.{IsEmptyOutside, IsPartAt}

-- the word at a place: the part of the text there, without white space around it
abbrev pub IsWordAt : List ℕ → Extent → List ℕ → Type 0
IsWordAt text span word = (part : List ℕ) × IsPartAt text span part × IsEmptyOutside text span part × (word ≡ trim part)
