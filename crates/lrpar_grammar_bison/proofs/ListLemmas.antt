-- The list of words, piece by piece.
use Rattle.std.proofs.Common.{◌≡◌, ◌<◌, ◌≤◌, ◌+◌, ◌-◌, ◌++◌, ℕ, true, false, cond, zero, suc, List, [], ◌∷◌, length, length-drop, drop, get_or, nat_lt, Some, None, refl, ap, sym, ◌∙◌, arith}
use Rattle.std.specs.Option.{option_map_or}
use Rattle.std.proofs.lemmas.Bool.Decides.{nat_tests}
use Rattle.std.proofs.lemmas.List.{append_assoc, drop-drop, drop_all, drop_more}
use Rattle.lrpar_grammar_bison.specs.declared.words.Piece.{Piece}
use Rattle.lrpar_grammar_bison.specs.Words.{PlacedWord, piece_at}
use Rattle.lrpar_grammar_bison.specs.WordList.{Reading, all_read, marks, read_from, stuck_at, with_words, word_of}

-- words, and further ones after them
pub with_more : (a b : List PlacedWord) (r : Reading) → with_words a (with_words b r) ≡ with_words (a ++ b) r
with_more a b r = ap (λ ws. record { words = ws; stuck = r.stuck }) (sym (append_assoc a b r.words))

-- the bytes of a piece that begins earlier
read_skip : (s : List ℕ) (place sections k : ℕ) → k ≤ length s → read_from place sections k s ≡ read_from (place + k) sections 0 (drop k s)
read_skip s place sections zero few = let at : place ≡ place + 0 = omega arith in ap (λ p. read_from p sections 0 s) at
read_skip [] place sections (suc k) few = absurd (omega arith)
read_skip (c ∷ s) place sections (suc k) few =
    let at : (place + 1) + k ≡ place + suc k = omega arith in
    read_skip s (place + 1) sections k (omega arith) ∙ ap (λ p. read_from p sections 0 (drop k s)) at

-- what is read from a place on, by the piece there
read_here : (text : List ℕ) (place sections : ℕ) → place < length text → sections < 2
    → read_from place sections 0 (drop place text)
    ≡ option_map_or (λ x. with_words (word_of place (drop place text) x) (read_from (place + 1) (sections + marks x.word) (x.len - 1) (drop (place + 1) text)))
    (piece_at (drop place text)) (stuck_at place)
read_here text place sections within few =
    let rest = drop (place + 1) text in
    let here : drop place text ≡ get_or text place 0 ∷ rest = drop_more text place 0 within in
    let test : nat_lt sections 2 ≡ true = grind (arith, nat_tests) in
    ap (read_from place sections 0) here
    ∙ ap (λ b. cond b (option_map_or (λ x. with_words (word_of place (get_or text place 0 ∷ rest) x) (read_from (place + 1) (sections + marks x.word) (x.len - 1) rest))
    (piece_at (get_or text place 0 ∷ rest)) (stuck_at place)) all_read) test
    ∙ ap (λ s. option_map_or (λ (x : Piece). with_words (word_of place s x) (read_from (place + 1) (sections + marks x.word) (x.len - 1) rest)) (piece_at s) (stuck_at place)) (sym here)

-- one more piece
pub read_more : (text : List ℕ) (place sections : ℕ) (x : Piece) → piece_at (drop place text) ≡ Some x → sections < 2 → place < length text → 0 < x.len
    → place + x.len ≤ length text
    → read_from place sections 0 (drop place text)
    ≡ with_words (word_of place (drop place text) x) (read_from (place + x.len) (sections + marks x.word) 0 (drop (place + x.len) text))
read_more text place sections x is few within some most =
    let rest = drop (place + 1) text in
    let after = sections + marks x.word in
    let from : (place + 1) + (x.len - 1) ≡ place + x.len = omega arith in
    let skip : read_from (place + 1) after (x.len - 1) rest ≡ read_from (place + x.len) after 0 (drop (place + x.len) text) =
    read_skip rest (place + 1) after (x.len - 1) (omega (arith, length-drop (place + 1) text))
    ∙ ap (λ s. read_from ((place + 1) + (x.len - 1)) after 0 s) (drop-drop (x.len - 1) (place + 1) text ∙ ap (λ k. drop k text) from)
    ∙ ap (λ p. read_from p after 0 (drop (place + x.len) text)) from in
    read_here text place sections within few
    ∙ ap (λ found. option_map_or (λ (x : Piece). with_words (word_of place (drop place text) x) (read_from (place + 1) (sections + marks x.word) (x.len - 1) rest)) found (stuck_at place)) is
    ∙ ap (with_words (word_of place (drop place text) x)) skip

-- no piece begins at the place
pub read_stuck : (text : List ℕ) (place sections : ℕ) → piece_at (drop place text) ≡ None → sections < 2 → place < length text
    → read_from place sections 0 (drop place text) ≡ stuck_at place
read_stuck text place sections is few within =
    read_here text place sections within few
    ∙ ap (λ found. option_map_or (λ (x : Piece). with_words (word_of place (drop place text) x) (read_from (place + 1) (sections + marks x.word) (x.len - 1) (drop (place + 1) text))) found (stuck_at place)) is

-- nothing is read after the second `%%`
read_no_more : (s : List ℕ) (place sections : ℕ) → 2 ≤ sections → read_from place sections 0 s ≡ all_read
read_no_more [] place sections done = refl
read_no_more (c ∷ s) place sections done =
    let test : nat_lt sections 2 ≡ false = grind (arith, nat_tests) in
    ap (λ b. cond b (option_map_or (λ (x : Piece). with_words (word_of place (c ∷ s) x) (read_from (place + 1) (sections + marks x.word) (x.len - 1) s)) (piece_at (c ∷ s)) (stuck_at place)) all_read) test

-- the end of the text
pub read_past : (text : List ℕ) (place sections : ℕ) → length text ≤ place → read_from place sections 0 (drop place text) ≡ all_read
read_past text place sections past = ap (read_from place sections 0) (drop_all place text past)

-- the second `%%`
pub read_done : (text : List ℕ) (place sections : ℕ) → 2 ≤ sections → read_from place sections 0 (drop place text) ≡ all_read
read_done text place sections done = read_no_more (drop place text) place sections done
