-- The lexemes and errors of a text, as they are stored. `index` gives the number of a value of the storage type.
use Rattle.std.specs.Prelude.{◌≡◌, ◌++◌, ℕ, List, Option, Result, Vec}
use Rattle.lrpar_grammar_places.specs.declared.span.TIdx.{TIdx}
use Rattle.lrpar_lexer.specs.Answers.{plain_answers}
use Rattle.lrpar_lexer.specs.Lexing.{Lexes, lexemes_of}
use Rattle.lrpar_lexer.specs.LexingAll.{IsNext, LexesAll, LexesBy}
use Rattle.lrpar_lexer.specs.Rules.{number_of, plain_rules}
use Rattle.lrpar_lexer.specs.declared.rule.LexRule.{LexRule}
use Rattle.lrpar_lexer.specs.declared.token.Token.{Token}
use Rattle.lrpar_lexer.specs.declared.token.NoToken.{NoToken}

module _ {S : Type 0} (index : S → ℕ) where
  -- these are the lexemes and errors that the rules give for the text
  abbrev pub AreLexemesOf : {A : Type 0} → List (LexRule S) → List ℕ → Vec (Result (Token S) NoToken) A → Type 0
  AreLexemesOf rules text answers = Lexes (plain_rules index rules) text 0 (plain_answers index answers.items)

  -- these are the lexemes that the rules give, with a token for unmatched characters
  abbrev pub AreAllLexemesOf : {A : Type 0} → List (LexRule S) → TIdx S → List ℕ → Vec (Result (Token S) NoToken) A → Type 0
  AreAllLexemesOf rules unmatched text answers = LexesAll (plain_rules index rules) (index unmatched.0) text 0 (plain_answers index answers.items)

  -- these are the lexemes and errors that the rules give for the text, with a token for unmatched characters or without one
  abbrev pub AreLexemesBy : List (LexRule S) → Option (TIdx S) → List ℕ → List (Result (Token S) NoToken) → Type 0
  AreLexemesBy rules unmatched text answers = LexesBy (plain_rules index rules) (number_of index unmatched) text (plain_answers index answers)

  -- what comes at byte `at`: its token, if it has one, and its number of bytes
  abbrev pub ComesAt : List (LexRule S) → TIdx S → List ℕ → ℕ → Option (TIdx S) × ℕ → Type 0
  ComesAt rules unmatched text at next =
      IsNext (plain_rules index rules) (index unmatched.0) text at (number_of index next.0) next.1

  -- the lexeme of the token was appended, with n bytes from byte `at` on; nothing if there is no token
  abbrev pub AppendsLexeme : {A : Type 0} → Option (TIdx S) → ℕ → ℕ → Vec (Result (Token S) NoToken) A → Vec (Result (Token S) NoToken) A → Type 0
  AppendsLexeme token at n old new =
      plain_answers index new.items ≡ plain_answers index old.items ++ lexemes_of (number_of index token) at n
