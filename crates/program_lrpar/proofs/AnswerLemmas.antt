-- Steps over the characters of a text.
use Rattle.std.proofs.Common.{◌≡◌, ◌∙◌, sym, ap, ℕ, ◌+◌, List, [], ◌∷◌, ◌++◌, append_assoc, length, Result}
use Rattle.std.proofs.lemmas.List.{append-nil}
use Rattle.std.proofs.lemmas.Str.{chars_past_char, IsUtf8-past_char, length-encode, chars-nil}
use Rattle.std.specs.Char.{encode_utf8}
use Rattle.std.specs.Str.{IsUtf8, chars}
use Rattle.program_lrpar.specs.SumAnswers.{answer_of, answers_from}
use Rattle.lrpar_lexer.specs.declared.token.Token.{Token}
use Rattle.lrpar_lexer.specs.declared.token.NoToken.{NoToken}

-- what follows a character is a text
pub rest_is_text : (bs rest : List ℕ) (c : ℕ) → IsUtf8 bs → bs ≡ encode_utf8 c ++ rest → IsUtf8 rest
rest_is_text bs rest c u e = IsUtf8-past_char bs rest c u e

-- the answers for a text that starts with c: that for c, and those for what follows
pub answers_split : (bs rest : List ℕ) (at c : ℕ) → IsUtf8 bs → bs ≡ encode_utf8 c ++ rest
    → answers_from at (chars bs) ≡ answer_of at c ∷ answers_from (at + length (encode_utf8 c)) (chars rest)
answers_split bs rest at c u e =
    ap (answers_from at) (chars_past_char bs rest c u e) ∙ ap (λ n. answer_of at c ∷ answers_from (at + n) (chars rest)) (sym (length-encode c))

-- one more answer
pub answers_on : (given whole : List (Result (Token ℕ) NoToken)) (bs rest : List ℕ) (at c : ℕ) → IsUtf8 bs → bs ≡ encode_utf8 c ++ rest
    → given ++ answers_from at (chars bs) ≡ whole
    → (given ++ answer_of at c ∷ []) ++ answers_from (at + length (encode_utf8 c)) (chars rest) ≡ whole
answers_on given whole bs rest at c u e h =
    append_assoc given (answer_of at c ∷ []) (answers_from (at + length (encode_utf8 c)) (chars rest))
    ∙ ap (λ xs. given ++ xs) (sym (answers_split bs rest at c u e)) ∙ h

-- no more answers
pub answers_off : (given whole : List (Result (Token ℕ) NoToken)) (bs : List ℕ) (at : ℕ) → length bs ≡ 0
    → given ++ answers_from at (chars bs) ≡ whole → given ≡ whole
answers_off given whole [] at e h = sym (append-nil given) ∙ ap (λ cs. given ++ answers_from at cs) (sym chars-nil) ∙ h
answers_off given whole (b ∷ bs) at e h = cc

-- a step of the lexer: one more character is taken, and one more answer given
pub answers_step : (given next whole : List (Result (Token ℕ) NoToken)) (x : Result (Token ℕ) NoToken) (bs rest : List ℕ) (at next_at start c : ℕ)
    → IsUtf8 bs × (given ++ answers_from at (chars bs) ≡ whole)
    → (start ≡ at) × (bs ≡ encode_utf8 c ++ rest) × (next_at ≡ at + length (encode_utf8 c))
    → x ≡ answer_of start c → next ≡ given ++ x ∷ []
    → IsUtf8 rest × (next ++ answers_from next_at (chars rest) ≡ whole)
answers_step given next whole x bs rest at next_at start c (u, h) (s, b, n) e i =
    let before = answers_on given whole bs rest at c u b h in
    let x_at : x ≡ answer_of at c = e ∙ ap (λ a. answer_of a c) s in
    let next_is : next ≡ given ++ answer_of at c ∷ [] = i ∙ ap (λ y. given ++ y ∷ []) x_at in (
      rest_is_text bs rest c u b,
      ap (λ ys. ys ++ answers_from next_at (chars rest)) next_is
          ∙ ap (λ a. (given ++ answer_of at c ∷ []) ++ answers_from a (chars rest)) n ∙ before,
    )
