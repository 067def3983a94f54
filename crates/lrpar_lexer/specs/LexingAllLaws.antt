-- Laws of lexers that use rules, and of which unmatched characters are lexemes, too.
use Rattle.std.specs.Prelude.{◌≡◌, ℕ, List, All, Result, IsOk}
use Rattle.lrpar_lexer.specs.Rules.{Rule}
use Rattle.lrpar_lexer.specs.Lexing.{Lexes}
use Rattle.lrpar_lexer.specs.LexingAll.{LexesAll}
use Rattle.lrpar_lexer.specs.declared.token.Token.{Token}
use Rattle.lrpar_lexer.specs.declared.token.NoToken.{NoToken}

-- each text has a list of `LexesAll`
abbrev pub LexesEachText : Type 0
LexesEachText =
    (rules : List Rule) (unmatched : ℕ) (text : List ℕ)
    → (answers : List (Result (Token ℕ) NoToken)) × LexesAll rules unmatched text 0 answers

-- from each place on, a text has at most one list of `LexesAll`
abbrev pub LexesAllOneWay : Type 0
LexesAllOneWay =
    (rules : List Rule) (unmatched : ℕ) (text : List ℕ) (at : ℕ) (a b : List (Result (Token ℕ) NoToken))
    → LexesAll rules unmatched text at a → LexesAll rules unmatched text at b → a ≡ b

-- a list of `LexesAll` has no error
abbrev pub LexesAllAsLexemes : Type 0
LexesAllAsLexemes =
    (rules : List Rule) (unmatched : ℕ) (text : List ℕ) (at : ℕ) (answers : List (Result (Token ℕ) NoToken))
    → LexesAll rules unmatched text at answers → All (λ answer. IsOk answer) answers

-- if a list of `Lexes` has no error, it is the list of `LexesAll`
abbrev pub LexesAllAsRules : Type 0
LexesAllAsRules =
    (rules : List Rule) (unmatched : ℕ) (text : List ℕ) (at : ℕ) (answers : List (Result (Token ℕ) NoToken))
    → Lexes rules text at answers → All (λ answer. IsOk answer) answers → LexesAll rules unmatched text at answers
