-- Literals of Rust code are one piece each.
use Rattle.std.proofs.Common.{◌≡◌, ◌≢◌, ◌+◌, ◌++◌, ◌==◌, ◌&&◌, not, ℕ, true, false, cond, suc, List, [], ◌∷◌, length, length-append, nat_lt, Option, Some, refl, ap, sym, ◌∙◌, arith}
use Rattle.std.specs.List.{All, flat_map}
use Rattle.std.proofs.lemmas.Bool.{eqb-false}
use Rattle.std.proofs.lemmas.Bool.Decides.{nat_tests}
use Rattle.std.proofs.lemmas.List.{append_assoc}
use Rattle.std.proofs.lemmas.List.Elements.{All-head, All-tail}
use Rattle.lrpar_grammar_words.specs.Words.{is_byte_at}
use Rattle.lrpar_grammar_code.specs.Code.{char_len, char_width, escaped_len, is_unescaped, more, rust_len}
use Rattle.lrpar_grammar_code.specs.Literals.{Escaped, IsEscapedChar, IsInside, IsOnePiece, IsPlainChar, IsString, LiteralByte, LiteralsAreOnePiece, Plain, bytes_of, code_piece}

-- two numbers that aren't equal
unequal : (a b : ℕ) → a ≢ b → (a == b) ≡ false
unequal a b other = grind (arith, nat_tests)

-- one more byte than n and one
one_more : (n : ℕ) → ◌≡◌ {A = Option ℕ} (Some (1 + (n + 1))) (Some (suc n + 1))
one_more n = let same : 1 + (n + 1) ≡ suc n + 1 = omega arith in ap (λ k. Some k) same

-- two more bytes than n and one
two_more : (n : ℕ) → ◌≡◌ {A = Option ℕ} (Some (1 + (1 + (n + 1)))) (Some (suc (suc n) + 1))
two_more n = let same : 1 + (1 + (n + 1)) ≡ suc (suc n) + 1 = omega arith in ap (λ k. Some k) same

-- the quote after the bytes of a literal ends it
ends_after : (quote : ℕ) (text : List LiteralByte) (rest : List ℕ) → quote ≢ 92 → All (IsInside quote) text
    → escaped_len quote false (flat_map bytes_of text ++ quote ∷ rest) ≡ Some (length (flat_map bytes_of text) + 1)
ends_after quote [] rest other inside =
    let same : (quote == quote) ≡ true = grind (arith, nat_tests) in
    ap (λ b. cond b (Some 1) (more 1 (escaped_len quote (is_unescaped false quote 92) rest))) same ∙ ap (λ n. Some n) (omega arith)
ends_after quote (Plain c ∷ text) rest other inside =
    let here : IsInside quote (Plain c) = All-head (IsInside quote) (Plain c) text inside in
    let later = flat_map bytes_of text ++ quote ∷ rest in
    ap (λ b. cond b (Some 1) (more 1 (escaped_len quote (is_unescaped false c 92) later))) (unequal c quote here.0)
    ∙ ap (λ b. more 1 (escaped_len quote b later)) (unequal c 92 here.1)
    ∙ ap (more 1) (ends_after quote text rest other (All-tail (IsInside quote) (Plain c) text inside)) ∙ one_more (length (flat_map bytes_of text))
ends_after quote (Escaped c ∷ text) rest other inside =
    let later = flat_map bytes_of text ++ quote ∷ rest in
    ap (λ b. cond b (Some 1) (more 1 (more 1 (escaped_len quote false later)))) (unequal 92 quote (λ same. other (sym same)))
    ∙ ap (λ found. more 1 (more 1 found)) (ends_after quote text rest other (All-tail (IsInside quote) (Escaped c) text inside)) ∙ two_more (length (flat_map bytes_of text))

-- a string is one piece
strings : (s : List ℕ) → IsString s → IsOnePiece s
unfolding rust_len
strings s string rest =
    let text = flat_map bytes_of string.text in
    let all : s ++ rest ≡ 34 ∷ (text ++ 34 ∷ rest) = ap (λ t. t ++ rest) string.is ∙ ap (λ t. 34 ∷ t) (append_assoc text (34 ∷ []) rest) in
    let of : length s ≡ suc (length (text ++ 34 ∷ [])) = ap length string.is in
    let end : length (text ++ 34 ∷ []) ≡ length text + 1 = length-append text (34 ∷ []) in
    let len : 1 + (length text + 1) ≡ length s = omega (arith, of, end) in
    let quote : 34 ≢ 92 = eqb-false 34 92 refl in
    ap code_piece all ∙ ap (more 1) (ends_after 34 string.text rest quote string.inside) ∙ ap (λ n. Some n) len

-- a character of one ASCII byte is one piece
chars : (s : List ℕ) → IsPlainChar s → IsOnePiece s
unfolding rust_len char_len
chars s char rest =
    let c = char.byte in
    let all : s ++ rest ≡ 39 ∷ c ∷ 39 ∷ rest = ap (λ t. t ++ rest) char.is in
    let len : 3 ≡ length s = sym (ap length char.is) in
    let low : nat_lt c 128 ≡ true = let ascii = char.ascii in grind (arith, nat_tests) in
    let one : char_width c ≡ 1 = ap (λ b. cond b 1 (cond (nat_lt c 224) 2 (cond (nat_lt c 240) 3 4))) low in
    let long : nat_lt 1 (length (c ∷ 39 ∷ rest)) ≡ true = grind (arith, nat_tests) in
    let found : char_len (c ∷ 39 ∷ rest) ≡ Some 2 =
    ap (λ b. cond b (escaped_len 39 false (c ∷ 39 ∷ rest)) (cond (not (c == 39) && is_byte_at (c ∷ 39 ∷ rest) (char_width c) 39) (Some (char_width c + 1)) (Some 0))) (unequal c 92 char.inside.1)
    ∙ ap (λ b. cond (not b && is_byte_at (c ∷ 39 ∷ rest) (char_width c) 39) (Some (char_width c + 1)) (Some 0)) (unequal c 39 char.inside.0)
    ∙ ap (λ w. cond (is_byte_at (c ∷ 39 ∷ rest) w 39) (Some (w + 1)) (Some 0)) one ∙ ap (λ b. cond (b && (39 == 39)) (Some 2) (Some 0)) long in
    ap code_piece all ∙ ap (more 1) found ∙ ap (λ n. Some n) len

-- a character with a backslash is one piece
escaped : (s : List ℕ) → IsEscapedChar s → IsOnePiece s
unfolding rust_len char_len
escaped s char rest =
    let text = flat_map bytes_of char.text in
    let all : s ++ rest ≡ 39 ∷ 92 ∷ char.byte ∷ (text ++ 39 ∷ rest) = ap (λ t. t ++ rest) char.is ∙ ap (λ t. 39 ∷ 92 ∷ char.byte ∷ t) (append_assoc text (39 ∷ []) rest) in
    let of : length s ≡ suc (suc (suc (length (text ++ 39 ∷ [])))) = ap length char.is in
    let end : length (text ++ 39 ∷ []) ≡ length text + 1 = length-append text (39 ∷ []) in
    let len : 1 + (1 + (1 + (length text + 1))) ≡ length s = omega (arith, of, end) in
    let quote : 39 ≢ 92 = eqb-false 39 92 refl in
    ap code_piece all ∙ ap (λ found. more 1 (more 1 (more 1 found))) (ends_after 39 char.text rest quote char.inside) ∙ ap (λ n. Some n) len

-- strings and characters are one piece each
pub literals_are_one_piece : LiteralsAreOnePiece
literals_are_one_piece = record { strings = strings; chars = chars; escaped = escaped }
