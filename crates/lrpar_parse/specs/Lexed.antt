-- The answer of a lexer: lexemes, and errors for parts that no token fits.
use Rattle.std.specs.Prelude.{◌≡◌, List, [], ◌∷◌, Option, Some, None, Result, Ok, Err, MatchResult, Vec}

-- the first lexing error, if there is one anywhere
abbrev pub first_error : {X E : Type 0} → List (Result X E) → Option E
first_error [] = None
first_error (Ok x ∷ answers) = first_error answers
first_error (Err e ∷ answers) = Some e

-- the lexemes before the first lexing error; all lexemes, if there is no error
abbrev pub lexemes_of : {X E : Type 0} → List (Result X E) → List X
lexemes_of [] = []
lexemes_of (Ok x ∷ answers) = x ∷ lexemes_of answers
lexemes_of (Err e ∷ answers) = []

-- all lexemes, if there is no error, or the first lexing error
abbrev pub LexemesOrError : {X E Z : Type 0} → List (Result X E) → Result (Vec X Z) E → Type 0
LexemesOrError answers lexed =
    MatchResult lexed (λ lexemes. (first_error answers ≡ None) × (lexemes.items ≡ lexemes_of answers)) (λ error. first_error answers ≡ Some error)
