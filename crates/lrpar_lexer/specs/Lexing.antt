-- The lexemes and errors that the rules of a lexer give for a text.
use Rattle.std.specs.Prelude.{◌≡◌, ℕ, ◌+◌, ◌<◌, ◌≤◌, false, List, [], ◌∷◌, ◌++◌, length, map, drop, Option, Some, None, Result, Ok, Err, slice_get}
use Rattle.lrpar_lexer.specs.Matching.{NoneMatches, Wins}
use Rattle.lrpar_lexer.specs.Rules.{Rule}
use Rattle.lrpar_lexer.specs.declared.token.Token.{Token}
use Rattle.lrpar_lexer.specs.declared.token.NoToken.{NoToken}

-- the lexeme of a token: n bytes from byte `at` on
abbrev pub lexeme_of : ℕ → ℕ → ℕ → Token ℕ
lexeme_of token at n = record { number = token; span = record { start = at; end = at + n }; is_faulty = false }

-- no rule matches at byte `at`
abbrev pub nothing_at : ℕ → NoToken
nothing_at at = record { span = record { start = at; end = at } }

-- at byte `at` of the text a rule wins, with n bytes; it has this token, or none
pub record Reads (rules : List Rule) (text : List ℕ) (at : ℕ) (token : Option ℕ) (n : ℕ) : Type 0 where
  pub rule : ℕ
  pub wins : Wins (map (λ r. r.pattern) rules) (drop at text) rule n
  pub is : slice_get (map (λ r. r.token) rules) rule ≡ Some token

-- the lexemes of a match: one, or none if the rule has no token
abbrev pub lexemes_of : Option ℕ → ℕ → ℕ → List (Result (Token ℕ) NoToken)
lexemes_of None at n = []
lexemes_of (Some token) at n = Ok (lexeme_of token at n) ∷ []

-- The lexemes and errors of a text from byte `at` on: a lexeme for each match of a rule with a token, and an error if no rule
-- matches, which is the last result.
pub data Lexes (rules : List Rule) (text : List ℕ) : ℕ → List (Result (Token ℕ) NoToken) → Type 0 where
  ends : (at : ℕ) → length text ≤ at → Lexes rules text at []
  stops : (at : ℕ) → at < length text → NoneMatches (map (λ r. r.pattern) rules) (drop at text) → Lexes rules text at (Err (nothing_at at) ∷ [])
  reads : (at n : ℕ) (token : Option ℕ) (answers : List (Result (Token ℕ) NoToken)) → at < length text → Reads rules text at token n
      → Lexes rules text (at + n) answers → Lexes rules text at (lexemes_of token at n ++ answers)
