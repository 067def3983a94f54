-- Lexemes and errors with their tokens by number. `index` gives the number of a value of the storage type.
use Rattle.std.specs.Prelude.{ℕ, List, map, Result, Ok, Err}
use Rattle.lrpar_lexer.specs.declared.token.Token.{Token}
use Rattle.lrpar_lexer.specs.declared.token.NoToken.{NoToken}

-- a lexeme as it is stored, with its token by number
abbrev pub plain_token : {S : Type 0} → (S → ℕ) → Token S → Token ℕ
plain_token index x = record { number = index x.number; span = x.span; is_faulty = x.is_faulty }

-- a lexeme or an error as it is stored, with its token by number
abbrev pub plain_answer : {S : Type 0} → (S → ℕ) → Result (Token S) NoToken → Result (Token ℕ) NoToken
plain_answer index (Ok x) = Ok (plain_token index x)
plain_answer index (Err e) = Err e

-- lexemes and errors as they are stored, with their tokens by number
abbrev pub plain_answers : {S : Type 0} → (S → ℕ) → List (Result (Token S) NoToken) → List (Result (Token ℕ) NoToken)
plain_answers index answers = map (plain_answer index) answers
