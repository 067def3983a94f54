-- One more lexeme or error, with tokens by number.
use Rattle.std.proofs.Common.{◌≡◌, ℕ, List, [], ◌∷◌, ◌++◌, Option, Some, option_map, Result, Ok, Err, ◌∙◌, ap, sym}
use Rattle.std.proofs.lemmas.List.{map_push}
use Rattle.lrpar_grammar_places.specs.declared.span.TIdx.{TIdx}
use Rattle.lrpar_lexer.specs.Answers.{plain_answer, plain_answers, plain_token}
use Rattle.lrpar_lexer.specs.Lexing.{lexeme_of, lexemes_of}
use Rattle.lrpar_lexer.specs.declared.token.Token.{Token}
use Rattle.lrpar_lexer.specs.declared.token.NoToken.{NoToken}

module _ {S : Type 0} (index : S → ℕ) (before after : List (Result (Token S) NoToken)) where
  -- an error
  pub plain_push_error : (e : NoToken) → after ≡ before ++ Err e ∷ [] → plain_answers index after ≡ plain_answers index before ++ Err e ∷ []
  plain_push_error e is = ap (plain_answers index) is ∙ map_push (plain_answer index) before (Err e)

  -- the lexeme of a token
  pub plain_push_lexeme : (token : Option (TIdx S)) (t : TIdx S) (x : Token S) (at n : ℕ) → token ≡ Some t
      → plain_token index x ≡ lexeme_of (index t.0) at n → after ≡ before ++ Ok x ∷ []
      → plain_answers index after ≡ plain_answers index before ++ lexemes_of (option_map (λ token. index token.0) token) at n
  plain_push_lexeme token t x at n is_token is_lexeme is =
      ap (plain_answers index) is ∙ map_push (plain_answer index) before (Ok x) ∙ ap (λ y. plain_answers index before ++ Ok y ∷ []) is_lexeme
      ∙ ap (λ o. plain_answers index before ++ lexemes_of (option_map (λ token. index token.0) o) at n) (sym is_token)
