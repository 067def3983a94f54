-- What the methods of `str` make of a part of a text.
use Rattle.std.proofs.Common.{◌≡◌, ◌≢◌, ℕ, ◌+◌, ◌-◌, ◌<◌, ◌≤◌, ◌==◌, nat_lt, Bool, true, false, not, ◌&&◌, List, [], ◌∷◌, ◌++◌, length, take, drop, get_or, Option, Some, None, MatchOption, Bor, inl, inr, sym, ◌∙◌, ap, ap₂, refl, arith, eqb-true, length-drop, take_all, take_at, take-append-drop}
use Rattle.std.specs.Char.{char_set_contains}
use Rattle.std.specs.List.{after_last, before_last, prefix_len, suffix_len}
use Rattle.std.specs.Str.{NoCharPasses, bytes_eq}
use Rattle.std.specs.Str.Pattern.{FindsTextPrefix, LacksTextAt, RFindsBy, SplitsAroundMatch, StripsPrefix}
use Rattle.std.specs.Option.{unwrap_or}
use Rattle.std.proofs.lemmas.Bool.{and_parts, cases_Bool, cases_lt, cond-false, cond-true}
use Rattle.std.proofs.lemmas.Bool.Decides.{nat_tests}
use Rattle.std.proofs.lemmas.List.{drop_more, get_or-drop, take_more}
use Rattle.std.proofs.lemmas.List.Sums.{prefix_len-le-length, suffix_len_is}
use Rattle.std.proofs.lemmas.Slice.Eq.{bytes_eq-Decides}
use Rattle.std.proofs.lemmas.Str.{NoCharPasses-byte, len_utf8_ascii}
use Rattle.lrpar_lexer.specs.RuleLines.{without_end, without_front}
use Rattle.lrpar_lexer_lrlex.specs.Parts.{Part, after_byte, after_word, before_last_byte, before_word, is_white, last_word, trimmed}

-- a test that passes says that there is such a byte
byte_at : (byte : ℕ) (bytes : List ℕ) (i : ℕ) → (nat_lt 0 (length bytes) && (get_or bytes i 0 == byte)) ≡ true
    → (0 < length bytes) × (get_or bytes i 0 ≡ byte)
byte_at byte bytes i passes =
    let both = and_parts (nat_lt 0 (length bytes)) (get_or bytes i 0 == byte) passes in
    (grind (arith, nat_tests, both.0), eqb-true (get_or bytes i 0) byte both.1)

-- a part that doesn't begin with a byte has nothing after it
pub none_after : (byte : ℕ) (p : Part) → ((rest : List ℕ) → p.bytes ≢ byte ∷ rest) → after_byte byte p ≡ None
none_after byte p never = elim (cases_Bool (nat_lt 0 (length p.bytes) && (get_or p.bytes 0 0 == byte))) [
  | inl passes ↦
      let at = byte_at byte p.bytes 0 passes in
      absurd (never (drop 1 p.bytes) (drop_more p.bytes 0 0 at.0 ∙ ap (λ b. b ∷ drop 1 p.bytes) at.1))
  | inr fails ↦ cond-false (nat_lt 0 (length p.bytes) && (get_or p.bytes 0 0 == byte)) (Some (record { start = p.start + 1; bytes = drop 1 p.bytes })) None fails
]

-- the same at the end
pub none_before_last : (byte : ℕ) (p : Part) → ((front : List ℕ) → p.bytes ≢ front ++ byte ∷ []) → before_last_byte byte p ≡ None
none_before_last byte p never = elim (cases_Bool (nat_lt 0 (length p.bytes) && (get_or p.bytes (length p.bytes - 1) 0 == byte))) [
  | inl passes ↦
      let last : ℕ = length p.bytes - 1 in
      let at = byte_at byte p.bytes last passes in
      let some : 0 < length p.bytes = at.0 in
      let back : last + 1 ≡ length p.bytes = omega arith in
      absurd (never (take last p.bytes)
      (sym (take_all (length p.bytes) p.bytes (omega arith)) ∙ ap (λ n. take n p.bytes) (sym back) ∙ take_more p.bytes last 0 (omega arith)
      ∙ ap (λ b. take last p.bytes ++ b ∷ []) at.1))
  | inr fails ↦ cond-false (nat_lt 0 (length p.bytes) && (get_or p.bytes (length p.bytes - 1) 0 == byte))
      (Some (record { start = p.start; bytes = take (length p.bytes - 1) p.bytes })) None fails
]

-- a word in front
pub word_after : (word : List ℕ) (p : Part) (rest : List ℕ) → StripsPrefix (FindsTextPrefix word) p.bytes rest
    → Some (record { start = p.start + length word; bytes = rest }) ≡ after_word word p
word_after word p rest (n, (len, is, _), cut, _) =
    let same : rest ≡ drop (length word) p.bytes = cut ∙ ap (λ k. drop k p.bytes) len in
    let front : take (length word) p.bytes ≡ word = ap (take (length word)) is ∙ take_at word (drop n p.bytes) (length word) refl in
    let same_word : bytes_eq (take (length word) p.bytes) word ≡ true = (bytes_eq-Decides (take (length word) p.bytes) word).1 front in
    ap (λ b. Some (record { start = p.start + length word; bytes = b })) same ∙ sym (cond-true (bytes_eq (take (length word) p.bytes) word) _ None same_word)

pub no_word_after : (word : List ℕ) (p : Part) → LacksTextAt word p.bytes 0 → after_word word p ≡ None
no_word_after word p lacks = elim (cases_Bool (bytes_eq (take (length word) p.bytes) word)) [
  | inl passes ↦
      let front : take (length word) p.bytes ≡ word = (bytes_eq-Decides (take (length word) p.bytes) word).0 passes in
      absurd (lacks (drop (length word) p.bytes) (sym (take-append-drop (length word) p.bytes) ∙ ap (λ f. f ++ drop (length word) p.bytes) front))
  | inr fails ↦ cond-false (bytes_eq (take (length word) p.bytes) word) _ None fails
]

-- what remains if both ends are cut
pub trimmed_is : (p : Part) (after core : List ℕ) → after ≡ without_front is_white p.bytes → core ≡ without_end is_white after
    → record { start = p.start + (length p.bytes - length after); bytes = core } ≡ trimmed p
trimmed_is p after core front end =
    let n : ℕ = prefix_len is_white p.bytes in
    let within : n ≤ length p.bytes = prefix_len-le-length is_white p.bytes in
    let len : length after ≡ length p.bytes - n = ap length front ∙ length-drop n p.bytes in
    let start : p.start + (length p.bytes - length after) ≡ p.start + n = omega arith in
    ap₂ (λ s b. record { start = s; bytes = b }) start (end ∙ ap (without_end is_white) front)

pub white_set : (c : ℕ) → char_set_contains (32 ∷ 9 ∷ 13 ∷ 10 ∷ []) c ≡ is_white c
white_set c = grind (arith, nat_tests)

pub white_ascii : (c : ℕ) → is_white c ≡ true → c < 128
white_ascii c is = grind (arith, nat_tests)

high_solid : (c : ℕ) → 128 ≤ c → is_white c ≡ false
high_solid c high = grind (arith, nat_tests)

-- a byte of a text without white characters isn't white
solid_at : (bytes : List ℕ) (i : ℕ) → NoCharPasses is_white bytes → i < length bytes → is_white (get_or bytes i 0) ≡ false
solid_at bytes i none within = elim (cases_lt (get_or bytes i 0) 128) [
  | inl low ↦ NoCharPasses-byte is_white bytes i none within low
  | inr high ↦ high_solid (get_or bytes i 0) high
]

-- what `rsplit_once` finds for the white characters
abbrev FindsLast : List ℕ → Option (ℕ × ℕ) → Type 0
FindsLast text found = (test : ℕ → Bool) → ((c : ℕ) → char_set_contains (32 ∷ 9 ∷ 13 ∷ 10 ∷ []) c ≡ test c) → RFindsBy test text found

-- what `rsplit_once` at a white character gives
pub splits_word : (text : List ℕ) (parts : Option (Bor (List ℕ) × Bor (List ℕ))) (empty : Bor (List ℕ)) (all : Bor (List ℕ))
    → empty.now ≡ [] → all.now ≡ text
    → MatchOption parts (FindsLast text None) (λ x. SplitsAroundMatch FindsLast text x.0.now x.1.now)
    → ((unwrap_or parts (empty, all)).0.now ≡ before_last is_white text) × ((unwrap_or parts (empty, all)).1.now ≡ after_last is_white text)
splits_word text None empty all is_empty is_all none =
    let n : ℕ = suffix_len (λ c. not (is_white c)) text in
    let len : n ≡ length text - 0 =
    suffix_len_is (λ c. not (is_white c)) text 0 0 (omega arith)
    (λ k _ within. ap not (solid_at text k (none is_white white_set) within)) (λ some. absurd (omega arith)) in
    let here : length text - n ≡ 0 = omega arith in
    let front : length text - n - 1 ≡ 0 = omega arith in
    (is_empty ∙ sym (ap (λ k. take k text) front), is_all ∙ sym (ap (λ k. drop k text) here))
splits_word text (Some x) empty all is_empty is_all (i, j, finds, front, back, _, _, long) =
    let found : RFindsBy is_white text (Some (i, j)) = finds is_white white_set in
    let none = found.0 in
    let c : ℕ = found.1.0 in
    let white = found.1.1 in
    let at = found.1.2 in
    let small : c < 128 = white_ascii c white in
    let next : j ≡ i + 1 = at.ends ∙ ap (λ n. i + n) (len_utf8_ascii c small) in
    let within : j ≤ length text = omega (arith, long) in
    let n : ℕ = suffix_len (λ c. not (is_white c)) text in
    let len : n ≡ length text - j =
    suffix_len_is (λ c. not (is_white c)) text j 0 within
    (λ k from below.
    let here : j + (k - j) ≡ k = omega arith in
    ap not (ap is_white (ap (λ m. get_or text m 0) (sym here) ∙ sym (get_or-drop j text (k - j) 0))
    ∙ solid_at (drop j text) (k - j) none (omega (arith, length-drop j text))))
    (λ some.
    let before : j - 1 ≡ i = omega arith in
    ap not (ap (λ m. is_white (get_or text m 0)) before ∙ ap is_white (at.byte small) ∙ white)) in
    let cut : length text - n ≡ j = omega arith in
    let less : length text - n - 1 ≡ i = omega arith in
    (front ∙ sym (ap (λ k. take k text) less), back ∙ sym (ap (λ k. drop k text) cut))

-- the last word, with its place
pub word_is : (p : Part) (word : List ℕ) → word ≡ after_last is_white p.bytes
    → record { start = p.start + (length p.bytes - length word); bytes = word } ≡ last_word p
word_is p word is = ap (λ w. record { start = p.start + (length p.bytes - length w); bytes = w }) is

pub front_is : (p : Part) (front trimmed : List ℕ) → front ≡ before_last is_white p.bytes → trimmed ≡ without_end is_white front
    → record { start = p.start; bytes = trimmed } ≡ before_word p
front_is p front trimmed is cut = ap (λ b. record { start = p.start; bytes = b }) (cut ∙ ap (without_end is_white) is)
