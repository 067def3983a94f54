-- What a grammar with one more token has in common with the grammar that it is made of.
use Rattle.std.specs.Prelude.{◌≡◌, ◌++◌, ◌∷◌, ◌↔◌, [], ℕ, List}
use Rattle.lrpar_grammar.specs.Sentence.{IsSentence}
use Rattle.lrpar_grammar_reader.specs.Parts.{Parts, grammar_of}
use Rattle.lrpar_grammar_reader.specs.SpansFit.{SpansFit}
use Rattle.lrpar_grammar_unmatched.specs.WithToken.{token_named, with_token}

-- a grammar that is made of parts stays as it is, but for one more token
abbrev pub KeepsTheRest : Type 0
KeepsTheRest = (parts : Parts) (name : List ℕ)
    → with_token (grammar_of parts) name ≡ record (grammar_of parts) { tokens = parts.tokens ++ token_named name ∷ [] }

-- if its places lie in a text, those of the grammar with one more token do, too
abbrev pub KeepsSpans : Type 0
KeepsSpans = (parts : Parts) (name src : List ℕ) → SpansFit (grammar_of parts) src → SpansFit (with_token (grammar_of parts) name) src

-- lexemes are a sentence of it if and only if they are one of the grammar with one more token
abbrev pub KeepsSentences : Type 0 → Type 0
KeepsSentences X = (token : X → ℕ) (parts : Parts) (name : List ℕ) (lexemes : List X)
    → IsSentence token (grammar_of parts) lexemes ↔ IsSentence token (with_token (grammar_of parts) name) lexemes
