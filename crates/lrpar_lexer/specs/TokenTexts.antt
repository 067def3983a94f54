-- Lexemes, and places at which no token fits: their texts, and when two lexemes are equal.
use Rattle.std.specs.Prelude.{◌≡◌, ◌↔◌, ℕ, Bool, IsTrue, List, ◌++◌, Option, Some, codes}
use Rattle.std.specs.Hash as fed
use Rattle.std.specs.Fmt.{decimal}
use Rattle.lrpar_lexer.specs.declared.token.Token.{Token}
use Rattle.lrpar_lexer.specs.declared.token.NoToken.{NoToken}

-- a lexeme: the number of its token, its start and its end
abbrev pub token_text : {S : Type 0} → (S → ℕ) → Token S → Option (List ℕ)
token_text index x = Some (codes "token " ++ decimal (index x.number) ++ codes " at " ++ decimal x.span.start ++ codes ".." ++ decimal x.span.end)

-- a place at which no token fits: its start
abbrev pub no_token_text : NoToken → Option (List ℕ)
no_token_text e = Some (codes "no token fits at byte " ++ decimal e.span.start)

-- two lexemes with the same token and the same place, and both made by a repair or neither
pub record IsSameToken {S : Type 0} (index : S → ℕ) (x y : Token S) : Type 0 where
  pub token : index x.number ≡ index y.number
  pub start : x.span.start ≡ y.span.start
  pub end : x.span.end ≡ y.span.end
  pub faulty : x.is_faulty ≡ y.is_faulty

-- two lexemes are equal by `eq` exactly if they are the same
abbrev pub ComparesTokens : {S : Type 0} → (S → ℕ) → (Token S → Token S → Bool) → Type 0
ComparesTokens {S = S} index eq = (x y : Token S) → IsTrue (eq x y) ↔ IsSameToken index x y

-- what a hasher is fed for a lexeme: what it is fed for the number, both ends, and whether a repair made it
abbrev pub token_input : {S : Type 0} → (S → List (List ℕ)) → Token S → List (List ℕ)
token_input input x = input x.number ++ fed.usize x.span.start ++ fed.usize x.span.end ++ fed.bool x.is_faulty
