-- How a text is cut into pieces, and which words are among them.
use Rattle.std.proofs.Common.{◌≡◌, ◌<◌, ◌≤◌, ◌+◌, ◌-◌, nat_eq, inl, inr, subst, get_or, ℕ, false, cond, List, [], ◌∷◌, length, drop, codes, Option, Some, None, option_map, refl, ap, sym, ◌∙◌, arith}
use Rattle.std.specs.List.{starts_with}
use Rattle.std.proofs.lemmas.List.{at_drop_more, drop_more, get_or-drop}
use Rattle.std.specs.Str.{IsUtf8, IsCharBoundary}
use Rattle.std.proofs.lemmas.Str.{IsCharBoundary-before_ascii, IsCharBoundary-after_ascii}
use Rattle.std.proofs.lemmas.Bool.{cases_lt}
use Rattle.lrpar_grammar_words.specs.declared.words.Piece.{Piece}
use Rattle.lrpar_grammar_words.specs.Words.{IsCutInto, ReadsAsOne, closed_len, piece_at, words_of}

-- two numbers added to a found number, one after the other
option_map_add : (found : Option ℕ) (i : ℕ) → option_map (λ n. n + i) (option_map (λ n. n + 1) found) ≡ option_map (λ n. n + (i + 1)) found
option_map_add None i = refl
option_map_add (Some n) i = let same : (n + 1) + i ≡ n + (i + 1) = omega arith in ap (λ k. Some k) same

-- if no comment ends at i, the end from i + 1 on is one byte nearer
pub closed_len_more : (text : List ℕ) (i : ℕ) → i < length text → starts_with nat_eq (drop i text) (codes "*/") ≡ false
    → option_map (λ n. n + i) (closed_len (drop i text)) ≡ option_map (λ n. n + (i + 1)) (closed_len (drop (i + 1) text))
closed_len_more text i within unclosed =
    let rest = closed_len (drop (i + 1) text) in
    let test = ap (λ s. starts_with nat_eq s (codes "*/")) (sym (drop_more text i 0 within)) ∙ unclosed in
    let step : closed_len (drop i text) ≡ option_map (λ n. n + 1) rest =
    at_drop_more closed_len text i 0 within ∙ ap (λ b. cond b (Some 2) (option_map (λ n. n + 1) rest)) test in
    ap (option_map (λ n. n + i)) step ∙ option_map_add rest i

-- a text may be cut before or after a first byte that is ASCII
pub starts_char : (text : List ℕ) (place len quote : ℕ) → IsUtf8 text → place + len ≤ length text → 0 < len → quote ≤ 1
    → get_or (drop place text) 0 0 < 128 → IsCharBoundary text (place + quote)
starts_char text place len quote utf8 within some few first =
    let at_zero : place + 0 ≡ place = omega arith in
    let is : get_or (drop place text) 0 0 ≡ get_or text (place + 0) 0 = get_or-drop place text 0 0 in
    let is_at : get_or text (place + 0) 0 ≡ get_or text place 0 = ap (λ k. get_or text k 0) at_zero in
    let ascii : get_or text place 0 < 128 = omega arith in
    elim (cases_lt quote 1) [
      | inl none ↦ let same : place ≡ place + quote = omega arith in
          subst (IsCharBoundary text) same (IsCharBoundary-before_ascii text place (omega arith) ascii)
      | inr one ↦ let same : place + 1 ≡ place + quote = omega arith in
          subst (IsCharBoundary text) same (IsCharBoundary-after_ascii text place utf8 (omega arith) ascii)
    ]

-- a text may be cut before or after a last byte that is ASCII
pub ends_char : (text : List ℕ) (place len quote : ℕ) → IsUtf8 text → place + len ≤ length text → 0 < len → quote ≤ 1
    → get_or (drop place text) (len - 1) 0 < 128 → IsCharBoundary text (place + (len - quote))
ends_char text place len quote utf8 within some few last =
    let is : get_or (drop place text) (len - 1) 0 ≡ get_or text (place + (len - 1)) 0 = get_or-drop place text (len - 1) 0 in
    let ascii : get_or text (place + (len - 1)) 0 < 128 = omega arith in
    elim (cases_lt quote 1) [
      | inl none ↦ let same : (place + (len - 1)) + 1 ≡ place + (len - quote) = omega arith in
          subst (IsCharBoundary text) same (IsCharBoundary-after_ascii text (place + (len - 1)) utf8 (omega arith) ascii)
      | inr one ↦ let same : place + (len - 1) ≡ place + (len - quote) = omega arith in
          subst (IsCharBoundary text) same (IsCharBoundary-before_ascii text (place + (len - 1)) (omega arith) ascii)
    ]

-- no piece begins at the end of a text
pub no_piece : (s : List ℕ) (x : Piece) → s ≡ [] → piece_at s ≡ Some x → ⊥
no_piece s x ends is = let none : piece_at s ≡ None = ap piece_at ends in let same : ◌≡◌ {A = Option Piece} None (Some x) = sym none ∙ is in absurd (cc)

-- a text can be cut into only one list of pieces
cut_one : (s : List ℕ) (xs ys : List Piece) → IsCutInto s xs → IsCutInto s ys → xs ≡ ys
cut_one s [] [] a b = refl
cut_one s [] (y ∷ ys) a b = absurd (no_piece s y a b.0)
cut_one s (x ∷ xs) [] a b = absurd (no_piece s x b a.0)
cut_one s (x ∷ xs) (y ∷ ys) a b =
    let found : ◌≡◌ {A = Option Piece} (Some x) (Some y) = sym a.0 ∙ b.0 in
    let same : x ≡ y = cc in
    let rest : xs ≡ ys = cut_one (drop x.len s) xs ys a.1 (subst (λ n. IsCutInto (drop n s) ys) (ap (λ z. z.len) (sym same)) b.1) in
    cc

-- a text reads as one list of words
pub reads_as_one : ReadsAsOne
reads_as_one text xs ys a b = a.listed ∙ ap (words_of 0 text) (cut_one text a.pieces b.pieces a.cut b.cut) ∙ sym b.listed
