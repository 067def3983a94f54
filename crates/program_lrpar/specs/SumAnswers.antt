-- What the lexer of sums answers: a lexeme for each character that has a token, and an error for each that has none.
use Rattle.std.specs.Prelude.{◌+◌, ℕ, false, List, [], ◌∷◌, Result, Ok, Err}
use Rattle.std.specs.Char.{len_utf8}
use Rattle.std.specs.Str.{chars}
use Rattle.std.specs.Option.{option_map_or}
use Rattle.lrpar_grammar_places.specs.Span.{Extent}
use Rattle.program_lrpar.specs.Sums.{token_of}
use Rattle.lrpar_lexer.specs.declared.token.Token.{Token}
use Rattle.lrpar_lexer.specs.declared.token.NoToken.{NoToken}

-- the lexeme of a token at a place
abbrev pub lexeme_at : Extent → ℕ → Token ℕ
lexeme_at place token = record { number = token; span = place; is_faulty = false }

-- the error at a place
abbrev pub error_at : Extent → NoToken
error_at place = record { span = place }

-- the place of the character c that starts at byte `at`
abbrev pub place_of : ℕ → ℕ → Extent
place_of at c = record { start = at; end = at + len_utf8 c }

-- the answer for the character c that starts at byte `at`
abbrev pub answer_of : ℕ → ℕ → Result (Token ℕ) NoToken
answer_of at c = option_map_or (λ token. Ok (lexeme_at (place_of at c) token)) (token_of c) (Err (error_at (place_of at c)))

-- the answers for characters, the first of which starts at byte `at`
abbrev pub answers_from : ℕ → List ℕ → List (Result (Token ℕ) NoToken)
answers_from at [] = []
answers_from at (c ∷ cs) = answer_of at c ∷ answers_from (at + len_utf8 c) cs

-- the answers for a text of UTF-8 bytes: one for each character, in order
abbrev pub answers : List ℕ → List (Result (Token ℕ) NoToken)
answers text = answers_from 0 (chars text)
