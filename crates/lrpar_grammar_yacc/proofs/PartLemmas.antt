-- Runs of blanks and of names, piece by piece.
use Rattle.std.proofs.Common.{inl, inr, ◌≡◌, ◌<◌, ◌≤◌, ◌+◌, ◌-◌, ℕ, true, false, cond, zero, suc, List, [], ◌∷◌, length, length-drop, drop, get_or, Option, Some, None, refl, ap, sym, ◌∙◌, arith}
use Rattle.std.specs.Option.{IfSome, is_none, is_some, option_map_or}
use Rattle.std.proofs.lemmas.List.{at_drop_more, drop-drop, drop_more}
use Rattle.std.proofs.lemmas.Bool.{cases_lt}
use Rattle.lrpar_grammar_words.specs.declared.words.Piece.{Piece}
use Rattle.lrpar_grammar_words.specs.declared.words.WordKind.{WordKind}
use Rattle.lrpar_grammar_words.specs.Words.{IsWordPiece, piece_at}
use Rattle.lrpar_grammar_yacc.specs.Parts.{blanks_from, is_name, names_from}

-- no piece begins at the end
no_piece_past : (s : List ℕ) (place : ℕ) (x : Piece) → length s ≤ place → piece_at (drop place s) ≡ Some x → ⊥
no_piece_past s place x past is = no_piece (drop place s) (omega (arith, length-drop place s)) is
  where
    no_piece : (t : List ℕ) → length t ≡ 0 → piece_at t ≡ Some x → ⊥
    no_piece [] none is = absurd (cc)
    no_piece (c ∷ t) none is = omega arith

-- a piece begins before the end
pub piece_inside : (s : List ℕ) (place : ℕ) (x : Piece) → piece_at (drop place s) ≡ Some x → place < length s
piece_inside s place x is = elim (cases_lt place (length s)) [ inl inside ↦ inside | inr past ↦ absurd (no_piece_past s place x past is) ]

-- the bytes of blanks that begin earlier
pub blanks_skip : (s : List ℕ) (k : ℕ) → k ≤ length s → blanks_from k s ≡ k + blanks_from 0 (drop k s)
blanks_skip s zero few = omega arith
blanks_skip [] (suc k) few = absurd (omega arith)
blanks_skip (c ∷ s) (suc k) few = let rest = blanks_skip s k (omega arith) in omega (arith, rest)

-- blanks by the piece at a place
blanks_by : (s : List ℕ) (place : ℕ) (found : Option Piece) → place < length s → piece_at (drop place s) ≡ found
    → blanks_from 0 (drop place s) ≡ option_map_or (λ x. cond (is_none x.word) (1 + blanks_from (x.len - 1) (drop (place + 1) s)) 0) found 0
blanks_by s place found inside is =
    at_drop_more (blanks_from 0) s place 0 inside
    ∙ ap (λ found. option_map_or (λ (x : Piece). cond (is_none x.word) (1 + blanks_from (x.len - 1) (drop (place + 1) s)) 0) found 0)
    (ap piece_at (sym (drop_more s place 0 inside)) ∙ is)

-- blanks, and those after them
pub blanks_more : (s : List ℕ) (place : ℕ) (x : Piece) → piece_at (drop place s) ≡ Some x → is_none x.word ≡ true → 0 < x.len → place + x.len ≤ length s
    → blanks_from 0 (drop place s) ≡ x.len + blanks_from 0 (drop (place + x.len) s)
blanks_more s place x is none some most =
    let rest = drop (place + 1) s in
    let by_piece : blanks_from 0 (drop place s) ≡ 1 + blanks_from (x.len - 1) rest =
    blanks_by s place (Some x) (omega arith) is ∙ ap (λ b. cond b (1 + blanks_from (x.len - 1) rest) 0) none in
    let skip = blanks_skip rest (x.len - 1) (omega (arith, length-drop (place + 1) s)) in
    let from : (place + 1) + (x.len - 1) ≡ place + x.len = omega arith in
    let same : blanks_from 0 (drop (x.len - 1) rest) ≡ blanks_from 0 (drop (place + x.len) s) =
    ap (blanks_from 0) (drop-drop (x.len - 1) (place + 1) s ∙ ap (λ k. drop k s) from) in
    omega (arith, by_piece, skip, same)

-- no more blanks before another piece
pub blanks_end : (s : List ℕ) (place : ℕ) (x : Piece) → piece_at (drop place s) ≡ Some x → is_none x.word ≡ false → blanks_from 0 (drop place s) ≡ 0
blanks_end s place x is other =
    blanks_by s place (Some x) (piece_inside s place x is) is ∙ ap (λ b. cond b (1 + blanks_from (x.len - 1) (drop (place + 1) s)) 0) other

-- no more blanks where no piece begins
pub blanks_none : (s : List ℕ) (place : ℕ) → piece_at (drop place s) ≡ None → blanks_from 0 (drop place s) ≡ 0
blanks_none s place is =
    elim (cases_lt place (length s)) [
      | inl inside ↦ blanks_by s place None inside is
      | inr past ↦ at_end (drop place s) (omega (arith, length-drop place s))
    ]
  where
    at_end : (t : List ℕ) → length t ≡ 0 → blanks_from 0 t ≡ 0
    at_end [] none = refl
    at_end (c ∷ t) none = absurd (omega arith)

-- the bytes of a name or blanks that begin earlier
names_skip : (s : List ℕ) (last place k : ℕ) → k ≤ length s → names_from last place k s ≡ names_from last (place + k) 0 (drop k s)
names_skip s last place zero few = let same : place ≡ place + 0 = omega arith in ap (λ p. names_from last p 0 s) same
names_skip [] last place (suc k) few = absurd (omega arith)
names_skip (c ∷ s) last place (suc k) few =
    let same : (place + 1) + k ≡ place + suc k = omega arith in
    names_skip s last (place + 1) k (omega arith) ∙ ap (λ p. names_from last p 0 (drop k s)) same

-- names by the piece at a place
names_by : (s : List ℕ) (last place : ℕ) (found : Option Piece) → place < length s → piece_at (drop place s) ≡ found
    → names_from last place 0 (drop place s)
    ≡ option_map_or (λ x. cond (is_name x.word) (names_from (place + x.len) (place + 1) (x.len - 1) (drop (place + 1) s))
    (cond (is_none x.word) (names_from last (place + 1) (x.len - 1) (drop (place + 1) s)) last)) found last
names_by s last place found inside is =
    at_drop_more (names_from last place 0) s place 0 inside
    ∙ ap (λ found. option_map_or (λ (x : Piece). cond (is_name x.word) (names_from (place + x.len) (place + 1) (x.len - 1) (drop (place + 1) s))
    (cond (is_none x.word) (names_from last (place + 1) (x.len - 1) (drop (place + 1) s)) last)) found last)
    (ap piece_at (sym (drop_more s place 0 inside)) ∙ is)

-- the rest after a piece
names_after : (s : List ℕ) (last place len : ℕ) → 0 < len → place + len ≤ length s
    → names_from last (place + 1) (len - 1) (drop (place + 1) s) ≡ names_from last (place + len) 0 (drop (place + len) s)
names_after s last place len some most =
    let from : (place + 1) + (len - 1) ≡ place + len = omega arith in
    names_skip (drop (place + 1) s) last (place + 1) (len - 1) (omega (arith, length-drop (place + 1) s))
    ∙ ap (λ p. names_from last p 0 (drop (len - 1) (drop (place + 1) s))) from
    ∙ ap (names_from last (place + len) 0) (drop-drop (len - 1) (place + 1) s ∙ ap (λ k. drop k s) from)

-- a name, and what comes after it
pub names_name : (s : List ℕ) (last place : ℕ) (x : Piece) → piece_at (drop place s) ≡ Some x → is_name x.word ≡ true → 0 < x.len → place + x.len ≤ length s
    → names_from last place 0 (drop place s) ≡ names_from (place + x.len) (place + x.len) 0 (drop (place + x.len) s)
names_name s last place x is name some most =
    names_by s last place (Some x) (omega arith) is
    ∙ ap (λ b. cond b (names_from (place + x.len) (place + 1) (x.len - 1) (drop (place + 1) s)) (cond (is_none x.word) (names_from last (place + 1) (x.len - 1) (drop (place + 1) s)) last)) name
    ∙ names_after s (place + x.len) place x.len some most

-- blanks, and what comes after them
pub names_blank : (s : List ℕ) (last place : ℕ) (x : Piece) → piece_at (drop place s) ≡ Some x → is_name x.word ≡ false → is_none x.word ≡ true → 0 < x.len
    → place + x.len ≤ length s → names_from last place 0 (drop place s) ≡ names_from last (place + x.len) 0 (drop (place + x.len) s)
names_blank s last place x is name none some most =
    names_by s last place (Some x) (omega arith) is
    ∙ ap (λ b. cond b (names_from (place + x.len) (place + 1) (x.len - 1) (drop (place + 1) s)) (cond (is_none x.word) (names_from last (place + 1) (x.len - 1) (drop (place + 1) s)) last)) name
    ∙ ap (λ b. cond b (names_from last (place + 1) (x.len - 1) (drop (place + 1) s)) last) none
    ∙ names_after s last place x.len some most

-- no more names before another piece
pub names_end : (s : List ℕ) (last place : ℕ) (x : Piece) → piece_at (drop place s) ≡ Some x → is_name x.word ≡ false → is_none x.word ≡ false
    → names_from last place 0 (drop place s) ≡ last
names_end s last place x is name none =
    names_by s last place (Some x) (piece_inside s place x is) is
    ∙ ap (λ b. cond b (names_from (place + x.len) (place + 1) (x.len - 1) (drop (place + 1) s)) (cond (is_none x.word) (names_from last (place + 1) (x.len - 1) (drop (place + 1) s)) last)) name
    ∙ ap (λ b. cond b (names_from last (place + 1) (x.len - 1) (drop (place + 1) s)) last) none

-- no more names where no piece begins
pub names_none : (s : List ℕ) (last place : ℕ) → piece_at (drop place s) ≡ None → names_from last place 0 (drop place s) ≡ last
names_none s last place is =
    elim (cases_lt place (length s)) [
      | inl inside ↦ names_by s last place None inside is
      | inr past ↦ at_end (drop place s) (omega (arith, length-drop place s))
    ]
  where
    at_end : (t : List ℕ) → length t ≡ 0 → names_from last place 0 t ≡ last
    at_end [] none = refl
    at_end (c ∷ t) none = absurd (omega arith)

-- the last byte of a name
pub name_last : (word : Option WordKind) (s : List ℕ) (len : ℕ) → is_name word ≡ true → IfSome word (IsWordPiece s len) → get_or s (len - 1) 0 < 128
name_last None s len name ascii = absurd (cc)
name_last (Some kind) s len name ascii = ascii.last

-- no word
pub no_word : (word : Option WordKind) → is_some word ≡ false → ◌≡◌ {A = Option WordKind} word None
no_word None none = refl
no_word (Some kind) none = absurd (cc)
