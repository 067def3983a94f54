-- Lexers of a text by rules, as contracts see them.
use Rattle.std.specs.Prelude.{ℕ, List, Option, Result}
use Rattle.lrpar_grammar_places.specs.declared.span.TIdx.{TIdx}
use Rattle.lrpar_lexer.specs.declared.lexer.TextLexer.{TextLexer}
use Rattle.lrpar_lexer.specs.declared.list_lexer.ListLexer.{ListLexer}
use Rattle.lrpar_lexer.specs.declared.token.Token.{Token}
use Rattle.lrpar_lexer.specs.declared.token.NoToken.{NoToken}

-- `gives` says which lists rules give for a text, with a token for what would be an error or without one
module _ {R S : Type 0} (gives : R → Option (TIdx S) → List ℕ → List (Result (Token S) NoToken) → Type 0) where
  -- these are lexemes and errors that the rules of the lexer give for its text
  abbrev pub LexesInput : TextLexer R S → List (Result (Token S) NoToken) → Type 0
  LexesInput lexer answers = gives lexer.rules lexer.unmatched lexer.input.now answers

  -- the other lexer has lexemes and errors that this one gives
  abbrev pub HasLexemesOf : TextLexer R S → ListLexer S → Type 0
  HasLexemesOf lexer list = LexesInput lexer list.answers.items
