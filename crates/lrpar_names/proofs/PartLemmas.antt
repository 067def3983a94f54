-- What the methods of `str` make of a part of a text.
use Rattle.std.proofs.Common.{◌≡◌, ◌≢◌, ℕ, ◌+◌, ◌-◌, ◌<◌, ◌≤◌, ◌==◌, nat_lt, true, ◌&&◌, List, [], ◌∷◌, ◌++◌, length, take, drop, get_or, Some, None, inl, inr, sym, ◌∙◌, ap, ap₂, refl, arith, eqb-true, length-drop, take_at, take-append-drop}
use Rattle.std.specs.Char.{char_set_contains}
use Rattle.std.specs.List.{prefix_len}
use Rattle.std.specs.Str.{bytes_eq}
use Rattle.std.specs.Str.Pattern.{FindsTextPrefix, LacksTextAt, StripsPrefix}
use Rattle.std.proofs.lemmas.Bool.{and_parts, cases_Bool, cond-false, cond-true}
use Rattle.std.proofs.lemmas.Bool.Decides.{nat_tests}
use Rattle.std.proofs.lemmas.List.{drop_more}
use Rattle.std.proofs.lemmas.List.Sums.{prefix_len-le-length}
use Rattle.std.proofs.lemmas.Slice.Eq.{bytes_eq-Decides}
use Rattle.lrpar_names.specs.Parts.{without_end, without_front}
use Rattle.lrpar_names.specs.Parts.{Part, after_byte, after_word, is_white, trimmed}

-- a test that passes says that there is such a byte
byte_at : (byte : ℕ) (bytes : List ℕ) (i : ℕ) → (nat_lt 0 (length bytes) && (get_or bytes i 0 == byte)) ≡ true
    → (0 < length bytes) × (get_or bytes i 0 ≡ byte)
byte_at byte bytes i passes =
    let both = and_parts (nat_lt 0 (length bytes)) (get_or bytes i 0 == byte) passes in
    (grind (arith, nat_tests, both.0), eqb-true (get_or bytes i 0) byte both.1)

-- a part that doesn't begin with a byte has nothing after it
pub none_after : (byte : ℕ) (p : Part) → ((rest : List ℕ) → p.bytes ≢ byte ∷ rest) → after_byte byte p ≡ None
none_after byte p never = elim (cases_Bool (nat_lt 0 (length p.bytes) && (get_or p.bytes 0 0 == byte))) [
  | inl passes ↦
      let at = byte_at byte p.bytes 0 passes in
      absurd (never (drop 1 p.bytes) (drop_more p.bytes 0 0 at.0 ∙ ap (λ b. b ∷ drop 1 p.bytes) at.1))
  | inr fails ↦ cond-false (nat_lt 0 (length p.bytes) && (get_or p.bytes 0 0 == byte)) (Some (record { start = p.start + 1; bytes = drop 1 p.bytes })) None fails
]

-- a word in front
pub word_after : (word : List ℕ) (p : Part) (rest : List ℕ) → StripsPrefix (FindsTextPrefix word) p.bytes rest
    → Some (record { start = p.start + length word; bytes = rest }) ≡ after_word word p
word_after word p rest (n, (len, is, _), cut, _) =
    let same : rest ≡ drop (length word) p.bytes = cut ∙ ap (λ k. drop k p.bytes) len in
    let front : take (length word) p.bytes ≡ word = ap (take (length word)) is ∙ take_at word (drop n p.bytes) (length word) refl in
    let same_word : bytes_eq (take (length word) p.bytes) word ≡ true = (bytes_eq-Decides (take (length word) p.bytes) word).1 front in
    ap (λ b. Some (record { start = p.start + length word; bytes = b })) same ∙ sym (cond-true (bytes_eq (take (length word) p.bytes) word) _ None same_word)

pub no_word_after : (word : List ℕ) (p : Part) → LacksTextAt word p.bytes 0 → after_word word p ≡ None
no_word_after word p lacks = elim (cases_Bool (bytes_eq (take (length word) p.bytes) word)) [
  | inl passes ↦
      let front : take (length word) p.bytes ≡ word = (bytes_eq-Decides (take (length word) p.bytes) word).0 passes in
      absurd (lacks (drop (length word) p.bytes) (sym (take-append-drop (length word) p.bytes) ∙ ap (λ f. f ++ drop (length word) p.bytes) front))
  | inr fails ↦ cond-false (bytes_eq (take (length word) p.bytes) word) _ None fails
]

-- what remains if both ends are cut
pub trimmed_is : (p : Part) (after core : List ℕ) → after ≡ without_front is_white p.bytes → core ≡ without_end is_white after
    → record { start = p.start + (length p.bytes - length after); bytes = core } ≡ trimmed p
trimmed_is p after core front end =
    let n : ℕ = prefix_len is_white p.bytes in
    let within : n ≤ length p.bytes = prefix_len-le-length is_white p.bytes in
    let len : length after ≡ length p.bytes - n = ap length front ∙ length-drop n p.bytes in
    let start : p.start + (length p.bytes - length after) ≡ p.start + n = omega arith in
    ap₂ (λ s b. record { start = s; bytes = b }) start (end ∙ ap (without_end is_white) front)

pub white_set : (c : ℕ) → char_set_contains (32 ∷ 9 ∷ 13 ∷ 10 ∷ []) c ≡ is_white c
white_set c = grind (arith, nat_tests)

pub white_ascii : (c : ℕ) → is_white c ≡ true → c < 128
white_ascii c is = grind (arith, nat_tests)
