-- A law of lexers that use rules.
use Rattle.std.specs.Prelude.{◌≡◌, ℕ, List, Result}
use Rattle.lrpar_lexer.specs.Rules.{Rule}
use Rattle.lrpar_lexer.specs.Lexing.{Lexes}
use Rattle.lrpar_lexer.specs.declared.token.Token.{Token}
use Rattle.lrpar_lexer.specs.declared.token.NoToken.{NoToken}

-- from each place on, a text has at most one list of lexemes and errors
abbrev pub LexesOneWay : Type 0
LexesOneWay =
    (rules : List Rule) (text : List ℕ) (at : ℕ) (a b : List (Result (Token ℕ) NoToken))
    → Lexes rules text at a → Lexes rules text at b → a ≡ b
