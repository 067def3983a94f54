-- What parts declare, part by part and word by word.
use Rattle.std.proofs.Common.{inl, inr, ◌≡◌, ◌<◌, ◌≤◌, ◌+◌, ◌-◌, ◌++◌, ℕ, zero, suc, List, [], ◌∷◌, length, length-drop, drop, get_or, take, Option, Some, None, refl, ap, sym, ◌∙◌, arith}
use Rattle.std.specs.List.{flat_map}
use Rattle.std.specs.Option.{option_map, option_map_or, option_to_list}
use Rattle.std.proofs.lemmas.Bool.{cases_lt}
use Rattle.std.proofs.lemmas.Grind.{flat_map-append}
use Rattle.std.proofs.lemmas.List.{append-nil, drop-drop, drop_more, take_more}
use Rattle.lrpar_grammar_words.specs.declared.words.Piece.{Piece}
use Rattle.lrpar_grammar_words.specs.declared.words.WordKind.{WordKind}
use Rattle.lrpar_grammar_words.specs.Words.{PlacedWord, piece_at, word_at}
use Rattle.lrpar_grammar_yacc.specs.declared.text.TextPart.{TextPart}
use Rattle.lrpar_grammar_yacc.specs.Declares.{avoided_in, declared_by, expected_in, expected_rr_in, levels_in, precs_in, unused_in, with_part, words_from}

-- no words among no bytes
pub no_words : (s : List ℕ) (place skip : ℕ) → words_from place 0 skip s ≡ []
no_words [] place skip = refl
no_words (c ∷ s) place skip = refl

-- the bytes of a word or blanks that begin earlier
words_skip : (s : List ℕ) (place n k : ℕ) → k ≤ length s → words_from place n k s ≡ words_from (place + k) (n - k) 0 (drop k s)
words_skip s place n zero few =
    let at : place ≡ place + 0 = omega arith in
    let most : n ≡ n - 0 = omega arith in
    ap (λ p. words_from p n 0 s) at ∙ ap (λ m. words_from (place + 0) m 0 s) most
words_skip [] place n (suc k) few = absurd (omega arith)
words_skip (c ∷ s) place zero (suc k) few =
    let none : 0 ≡ 0 - suc k = omega arith in
    sym (no_words (drop k s) (place + suc k) 0) ∙ ap (λ m. words_from (place + suc k) m 0 (drop k s)) none
words_skip (c ∷ s) place (suc n) (suc k) few =
    let at : (place + 1) + k ≡ place + suc k = omega arith in
    let most : n - k ≡ suc n - suc k = omega arith in
    words_skip s (place + 1) n k (omega arith) ∙ ap (λ p. words_from p (n - k) 0 (drop k s)) at ∙ ap (λ m. words_from (place + suc k) m 0 (drop k s)) most

-- the word that a piece is
abbrev pub word_of : ℕ → List ℕ → Piece → List PlacedWord
word_of place s x = option_to_list (option_map (λ (kind : WordKind). word_at place s kind x.len) x.word)

-- the words from a place on, by the piece there
words_by : (s : List ℕ) (place end : ℕ) (found : Option Piece) → place < length s → place < end → piece_at (drop place s) ≡ found
    → words_from place (end - place) 0 (drop place s)
    ≡ option_map_or (λ x. word_of place (drop place s) x ++ words_from (place + 1) (end - (place + 1)) (x.len - 1) (drop (place + 1) s)) found []
words_by s place end found inside before is =
    let rest = drop (place + 1) s in
    let here : drop place s ≡ get_or s place 0 ∷ rest = drop_more s place 0 inside in
    let n = end - (place + 1) in
    let some : end - place ≡ suc n = omega arith in
    ap (λ m. words_from place m 0 (drop place s)) some ∙ ap (words_from place (suc n) 0) here
    ∙ ap (λ t. option_map_or (λ (x : Piece). word_of place t x ++ words_from (place + 1) n (x.len - 1) rest) (piece_at t) []) (sym here)
    ∙ ap (λ found. option_map_or (λ (x : Piece). word_of place (drop place s) x ++ words_from (place + 1) n (x.len - 1) rest) found []) is

-- a piece, and the words after it
pub words_more : (s : List ℕ) (place end : ℕ) (x : Piece) → piece_at (drop place s) ≡ Some x → place < end → 0 < x.len → place + x.len ≤ length s
    → words_from place (end - place) 0 (drop place s)
    ≡ word_of place (drop place s) x ++ words_from (place + x.len) (end - (place + x.len)) 0 (drop (place + x.len) s)
words_more s place end x is before some most =
    let rest = drop (place + 1) s in
    let n = end - (place + 1) in
    let from : (place + 1) + (x.len - 1) ≡ place + x.len = omega arith in
    let left : n - (x.len - 1) ≡ end - (place + x.len) = omega arith in
    let skip : words_from (place + 1) n (x.len - 1) rest ≡ words_from (place + x.len) (end - (place + x.len)) 0 (drop (place + x.len) s) =
    words_skip rest (place + 1) n (x.len - 1) (omega (arith, length-drop (place + 1) s))
    ∙ ap (λ p. words_from p (n - (x.len - 1)) 0 (drop (x.len - 1) rest)) from
    ∙ ap (λ m. words_from (place + x.len) m 0 (drop (x.len - 1) rest)) left
    ∙ ap (words_from (place + x.len) (end - (place + x.len)) 0) (drop-drop (x.len - 1) (place + 1) s ∙ ap (λ k. drop k s) from) in
    words_by s place end (Some x) (omega arith) before is ∙ ap (λ ws. word_of place (drop place s) x ++ ws) skip

-- no words where no piece begins
pub words_none : (s : List ℕ) (place end : ℕ) → piece_at (drop place s) ≡ None → place < end → words_from place (end - place) 0 (drop place s) ≡ []
words_none s place end is before =
    elim (cases_lt place (length s)) [
      | inl inside ↦ words_by s place end None inside before is
      | inr past ↦ at_end (drop place s) (omega (arith, length-drop place s))
    ]
  where
    at_end : (t : List ℕ) → length t ≡ 0 → words_from place (end - place) 0 t ≡ []
    at_end [] none = refl
    at_end (c ∷ t) none = absurd (omega arith)

-- no words past the end of the part
pub words_past : (s : List ℕ) (place end : ℕ) → end ≤ place → words_from place (end - place) 0 (drop place s) ≡ []
words_past s place end past =
    let none : end - place ≡ 0 = omega arith in
    ap (λ n. words_from place n 0 (drop place s)) none ∙ no_words (drop place s) place 0

-- one more element
flat_more : {X A : Type 0} (f : X → List A) (xs : List X) (i : ℕ) (d : X) → i < length xs → flat_map f (take i xs) ++ f (get_or xs i d) ≡ flat_map f (take (i + 1) xs)
flat_more f xs i d within =
    ap (λ s. flat_map f (take i xs) ++ s) (sym (append-nil (f (get_or xs i d)))) ∙ sym (flat_map-append f (take i xs) (get_or xs i d ∷ []))
    ∙ ap (flat_map f) (sym (take_more xs i d within))

-- what the first parts declare, and one more
pub declared_more : (text : List ℕ) (parts : List TextPart) (i : ℕ) (d : TextPart) → i < length parts
    → with_part text (declared_by text (take i parts)) (get_or parts i d) ≡ declared_by text (take (i + 1) parts)
unfolding with_part
declared_more text parts i d within =
    rw (
      flat_more (λ x. levels_in text x x.kind) parts i d within,
      flat_more (λ x. precs_in text x x.kind) parts i d within,
      flat_more (λ x. avoided_in text x x.kind) parts i d within,
      flat_more (λ x. unused_in text x x.kind) parts i d within,
      flat_more (λ x. expected_in text x x.kind) parts i d within,
      flat_more (λ x. expected_rr_in text x x.kind) parts i d within,
    ) refl
