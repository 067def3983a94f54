-- The words of a text that may be any part of a grammar text.
use Rattle.std.specs.Prelude.{List, ℕ, Option, Some, None}
use Rattle.lrpar_grammar_words.specs.Words.{PlacedWord, ReadsAs}

-- the text reads as these words; if there are none, it reads as no words at all
abbrev pub AreWordsOf : List ℕ → Option (List PlacedWord) → Type 0
AreWordsOf text (Some words) = ReadsAs text words
AreWordsOf text None = (words : List PlacedWord) → ReadsAs text words → ⊥
