-- The lexemes that the rules of a lexer give for a text if unmatched characters are lexemes, too.
use Rattle.std.specs.Prelude.{◌≡◌, ◌⊎◌, ℕ, ◌+◌, ◌<◌, ◌≤◌, List, [], ◌++◌, length, map, Option, Some, None, Result}
use Rattle.lrpar_lexer.specs.Lexing.{Lexes, Reads, lexemes_of}
use Rattle.lrpar_lexer.specs.Matching.{IsUnmatched}
use Rattle.lrpar_lexer.specs.Rules.{Rule}
use Rattle.lrpar_lexer.specs.declared.token.Token.{Token}
use Rattle.lrpar_lexer.specs.declared.token.NoToken.{NoToken}

-- What comes at byte `at` of the text has n bytes and this token, or none: a rule wins there; or no rule matches, and it is the longest run
-- at which none does, whose token is `unmatched`.
abbrev pub IsNext : List Rule → ℕ → List ℕ → ℕ → Option ℕ → ℕ → Type 0
IsNext rules unmatched text at token n =
    Reads rules text at token n ⊎ (IsUnmatched (map (λ r. r.pattern) rules) text at n × (token ≡ Some unmatched))

-- The lexemes of a text from byte `at` on: one for each match of a rule with a token, and one of the token `unmatched` for each longest run
-- of characters at which no rule matches.
pub data LexesAll (rules : List Rule) (unmatched : ℕ) (text : List ℕ) : ℕ → List (Result (Token ℕ) NoToken) → Type 0 where
  finishes : (at : ℕ) → length text ≤ at → LexesAll rules unmatched text at []
  goes_on : (at n : ℕ) (token : Option ℕ) (answers : List (Result (Token ℕ) NoToken)) → at < length text
      → IsNext rules unmatched text at token n → LexesAll rules unmatched text (at + n) answers
      → LexesAll rules unmatched text at (lexemes_of token at n ++ answers)

-- what a lexer by these rules gives for a text: the list of `LexesAll`, if it has a token for unmatched characters, and otherwise that of
-- `Lexes`
abbrev pub LexesBy : List Rule → Option ℕ → List ℕ → List (Result (Token ℕ) NoToken) → Type 0
LexesBy rules None text answers = Lexes rules text 0 answers
LexesBy rules (Some unmatched) text answers = LexesAll rules unmatched text 0 answers
