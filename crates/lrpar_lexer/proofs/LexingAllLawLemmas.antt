-- Each text has exactly one list of lexemes, if unmatched characters are lexemes, too.
use Rattle.std.proofs.Common.{◌≡◌, ℕ, ◌+◌, ◌≤◌, List, [], ◌++◌, map, Option, Some, None, Result, Ok, Err, IsOk, sym, subst, ◌∙◌, ap₂, refl, arith, inl, inr}
use Rattle.std.specs.List.{All}
use Rattle.std.proofs.lemmas.Bool.{false≢true}
use Rattle.std.proofs.lemmas.List.Elements.{All-append, All-cons, All-head, All-nil, All-tail}
use Rattle.lrpar_lexer.specs.Rules.{Rule}
use Rattle.lrpar_lexer.specs.Lexing.{lexeme_of, lexemes_of, nothing_at, ends, stops, reads}
use Rattle.lrpar_lexer.specs.LexingAll.{IsNext, LexesAll, finishes, goes_on}
use Rattle.lrpar_lexer.specs.LexingAllLaws.{LexesAllAsLexemes, LexesAllAsRules, LexesAllOneWay}
use Rattle.lrpar_lexer.specs.declared.token.Token.{Token}
use Rattle.lrpar_lexer.specs.declared.token.NoToken.{NoToken}
use Rattle.lrpar_lexer.proofs.LexingLawLemmas.{one_read, read_not_none}
use Rattle.lrpar_lexer.proofs.UnmatchedLemmas.{one_run}

module _ (rules : List Rule) (unmatched : ℕ) (text : List ℕ) (at : ℕ) where
  -- at a place one thing comes
  one_next : (s t : Option ℕ) (n m : ℕ) → IsNext rules unmatched text at s n → IsNext rules unmatched text at t m → (s ≡ t) × (n ≡ m)
  one_next s t n m (inl one) (inl other) = one_read rules text at s t n m one other
  one_next s t n m (inl one) (inr other) = absurd (read_not_none rules text at s n one other.0.none)
  one_next s t n m (inr one) (inl other) = absurd (read_not_none rules text at t m other one.0.none)
  one_next s t n m (inr one) (inr other) =
      let patterns = map (λ (r : Rule). r.pattern) rules in
      let there : n ≤ m = one_run patterns text at n m one.0 other.0 in
      let back : m ≤ n = one_run patterns text at m n other.0 one.0 in
      (one.1 ∙ sym other.1, omega arith)

pub lexes_all_one_way : LexesAllOneWay
lexes_all_one_way rules u text _ _ _ (finishes at past) (finishes at' past') = refl
lexes_all_one_way rules u text _ _ _ (finishes at past) (goes_on at' n token more within next rest) = absurd (omega arith)
lexes_all_one_way rules u text _ _ _ (goes_on at n token more within next rest) (finishes at' past) = absurd (omega arith)
lexes_all_one_way rules u text _ _ _ (goes_on at n token more within next rest) (goes_on at' m other after within' next' rest') =
    let same = one_next rules u text at token other n m next next' in
    let tail : more ≡ after = lexes_all_one_way rules u text (at + n) more after rest (subst (λ k. LexesAll rules u text (at + k) after) (sym same.1) rest') in
    let head : lexemes_of token at n ≡ lexemes_of other at m = ap₂ (λ t k. lexemes_of t at k) same.0 same.1 in
    ap₂ (λ xs ys. xs ++ ys) head tail

-- none is an error
abbrev pub AllOk : List (Result (Token ℕ) NoToken) → Type 0
AllOk answers = All (λ answer. IsOk answer) answers

-- a match gives no error
pub lexemes_all_ok : (token : Option ℕ) (at n : ℕ) → AllOk (lexemes_of token at n)
lexemes_all_ok None at n = All-nil (λ answer. IsOk answer)
lexemes_all_ok (Some token) at n = All-cons (λ answer. IsOk answer) (Ok (lexeme_of token at n)) [] refl (All-nil (λ answer. IsOk answer))

pub lexes_all_as_lexemes : LexesAllAsLexemes
lexes_all_as_lexemes rules u text _ _ (finishes at past) = All-nil (λ answer. IsOk answer)
lexes_all_as_lexemes rules u text _ _ (goes_on at n token more within next rest) =
    All-append (λ answer. IsOk answer) (lexemes_of token at n) more (lexemes_all_ok token at n) (lexes_all_as_lexemes rules u text (at + n) more rest)

-- if no lexeme of a match and of what follows is an error, none of what follows is
pub ok_after : (token : Option ℕ) (at n : ℕ) (more : List (Result (Token ℕ) NoToken)) → AllOk (lexemes_of token at n ++ more) → AllOk more
ok_after None at n more ok = ok
ok_after (Some token) at n more ok = All-tail (λ answer. IsOk answer) (Ok (lexeme_of token at n)) more ok

pub lexes_all_as_rules : LexesAllAsRules
lexes_all_as_rules rules u text _ _ (ends at past) ok = finishes at past
lexes_all_as_rules rules u text _ _ (stops at within none) ok = absurd (false≢true (All-head (λ answer. IsOk answer) (Err (nothing_at at)) [] ok))
lexes_all_as_rules rules u text _ _ (reads at n token more within read rest) ok =
    goes_on at n token more within (inl read) (lexes_all_as_rules rules u text (at + n) more rest (ok_after token at n more ok))
