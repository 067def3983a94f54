-- How many characters begin before a byte: the count for each 128th one, and the characters from there on.
use Rattle.std.proofs.Common.{◌≡◌, ◌<◌, ◌≤◌, ◌+◌, ◌-◌, ◌*◌, ◌/◌, ◌%◌, ℕ, true, false, cond, inl, inr, refl, sym, ap, ◌∙◌, arith, List, [], ◌∷◌, ◌++◌, length, take, drop, get_or, map}
use Rattle.std.proofs.Math.Utf8.{encode, encodes, scalar, scalars, scalar_cases}
use Rattle.std.proofs.lemmas.Bool.{cases_Bool}
use Rattle.std.proofs.lemmas.Bool.Decides.{nat_tests}
use Rattle.std.proofs.lemmas.List.{take-take, drop-take, length-take}
use Rattle.std.proofs.lemmas.List.FromFn.{get_or-map-range_with_len, length-map-range_with_len, map-range_with_len_more}
use Rattle.std.proofs.lemmas.List.Sums.{sum_by-cons, sum_by-take-drop, count_by-le-length, count_by_more_yes, count_by_more_no}
use Rattle.std.proofs.lemmas.Str.{IsUtf8-between, chars_from_encodes}
use Rattle.std.proofs.str.Laws.{Shape, of1, of2, of3, of4, both, shape}
use Rattle.std.specs.List.{count_by, range_with_len, slice_range}
use Rattle.std.specs.Str.{IsCharBoundary, IsUtf8, chars}
use Rattle.lrpar_grammar_places.specs.Lines.{begins_char, char_counts, chars_before, column_of, line_start}
use Rattle.lrpar_grammar_places.proofs.LineLemmas.{line_start_boundary}

-- a byte that begins a character counts
counted : (b : ℕ) (rest : List ℕ) → begins_char b ≡ true → count_by begins_char (b ∷ rest) ≡ 1 + count_by begins_char rest
counted b rest begins = sum_by-cons (λ x. cond (begins_char x) 1 0) b rest ∙ ap (λ t. cond t 1 0 + count_by begins_char rest) begins

-- and one that continues a character doesn't
passed : (b : ℕ) (rest : List ℕ) → (128 ≤ b) × (b < 192) → count_by begins_char (b ∷ rest) ≡ count_by begins_char rest
passed b rest within =
    let goes_on : begins_char b ≡ false = grind (arith, nat_tests) in
    omega (arith, sum_by-cons (λ x. cond (begins_char x) 1 0) b rest ∙ ap (λ t. cond t 1 0 + count_by begins_char rest) goes_on)

begins_low : (b : ℕ) → b < 128 → begins_char b ≡ true
begins_low b low = grind (arith, nat_tests)

begins_high : (b : ℕ) → 192 ≤ b → begins_char b ≡ true
begins_high b high = grind (arith, nat_tests)

-- a character counts once
one_counted : (c : ℕ) (rest : List ℕ) → Shape c → count_by begins_char (encode c ++ rest) ≡ 1 + count_by begins_char rest
one_counted c rest (of1 low e) = ap (λ l. count_by begins_char (l ++ rest)) e ∙ counted c rest (begins_low c low)
one_counted c rest (of2 a b high below fb is e) =
    ap (λ l. count_by begins_char (l ++ rest)) e ∙ counted a (b ∷ rest) (begins_high a high) ∙ ap (λ n. 1 + n) (passed b rest fb)
one_counted c rest (of3 a b d high below fb fd is e) =
    ap (λ l. count_by begins_char (l ++ rest)) e ∙ counted a (b ∷ d ∷ rest) (begins_high a (omega arith))
    ∙ ap (λ n. 1 + n) (passed b (d ∷ rest) fb ∙ passed d rest fd)
one_counted c rest (of4 a b d x high below fb fd fx is e) =
    ap (λ l. count_by begins_char (l ++ rest)) e ∙ counted a (b ∷ d ∷ x ∷ rest) (begins_high a (omega arith))
    ∙ ap (λ n. 1 + n) (passed b (d ∷ x ∷ rest) fb ∙ passed d (x ∷ rest) fd ∙ passed x rest fx)

-- and so does each character of a list
all_counted : (cs : List ℕ) → scalars cs ≡ true → count_by begins_char (encodes cs) ≡ length cs
all_counted [] are = refl
all_counted (c ∷ cs) are =
    let parts = both (scalar c) (scalars cs) are in
    let rest = all_counted cs parts.1 in
    one_counted c (encodes cs) (shape c (scalar_cases c parts.0)) ∙ omega (arith, rest)

-- a text has the same number of characters as of bytes that begin one
text_counted : (bs : List ℕ) → IsUtf8 bs → length (chars bs) ≡ count_by begins_char bs
text_counted bs u = ap length (sym (chars_from_encodes u.0 bs u u.1.1)) ∙ sym (all_counted u.0 u.1.0) ∙ ap (count_by begins_char) u.1.1

-- the characters before byte b are those before byte a, and those from there on
pub chars_parted : (text : List ℕ) (a b : ℕ) → a ≤ b → chars_before text b ≡ chars_before text a + count_by begins_char (slice_range text a b)
chars_parted text a b le =
    let whole : a + (b - a) ≡ b = omega arith in
    let front : take a (take b text) ≡ take a text = take-take a b text le in
    let back : drop a (take b text) ≡ take (b - a) (drop a text) = ap (λ n. drop a (take n text)) (sym whole) ∙ drop-take a (b - a) text in
    sym (sum_by-take-drop (λ x. cond (begins_char x) 1 0) (take b text) a)
    ∙ ap (λ l. count_by begins_char l + count_by begins_char (drop a (take b text))) front
    ∙ ap (λ l. count_by begins_char (take a text) + count_by begins_char l) back

-- a column is a difference of two counts
pub column_counted : (text : List ℕ) (i : ℕ) → IsUtf8 text → IsCharBoundary text i
    → column_of text i ≡ 1 + chars_before text i - chars_before text (line_start text i)
column_counted text i utf8 cut =
    let from = line_start text i in
    let up_to : from ≤ i = omega arith in
    let between : IsUtf8 (slice_range text from i) = IsUtf8-between text from i utf8 up_to (line_start_boundary text i cut.0 utf8) cut in
    omega (arith, text_counted (slice_range text from i) between, chars_parted text from i up_to)

-- the counts up to byte n
abbrev pub counts_to : List ℕ → ℕ → List ℕ
counts_to text n = map (λ k. chars_before text (k * 128)) (range_with_len 0 (n / 128 + 1))

-- one byte further there is one count more, if the place is a multiple of 128
pub counts_more : (text : List ℕ) (n : ℕ) → (n + 1) % 128 ≡ 0 → counts_to text (n + 1) ≡ counts_to text n ++ chars_before text (n + 1) ∷ []
counts_more text n multiple =
    let next : (n + 1) / 128 ≡ n / 128 + 1 = omega arith in
    let place : (n / 128 + 1) * 128 ≡ n + 1 = omega arith in
    ap (λ k. map (λ k. chars_before text (k * 128)) (range_with_len 0 (k + 1))) next
    ∙ map-range_with_len_more (λ k. chars_before text (k * 128)) 0 (n / 128 + 1) (n / 128 + 1) (omega arith)
    ∙ ap (λ i. counts_to text n ++ chars_before text i ∷ []) place

-- and otherwise there is none
pub counts_same : (text : List ℕ) (n : ℕ) → ¬ ((n + 1) % 128 ≡ 0) → counts_to text (n + 1) ≡ counts_to text n
counts_same text n other =
    let same : (n + 1) / 128 ≡ n / 128 = omega arith in
    ap (λ k. map (λ k. chars_before text (k * 128)) (range_with_len 0 (k + 1))) same

-- one more character, or none
pub chars_more : (text : List ℕ) (n : ℕ) → n < length text → chars_before text (n + 1) ≡ chars_before text n + cond (begins_char (get_or text n 0)) 1 0
chars_more text n within =
    elim (cases_Bool (begins_char (get_or text n 0))) [
      | inl begins ↦ count_by_more_yes begins_char text n 0 within begins ∙ ap (λ t. chars_before text n + cond t 1 0) (sym begins)
      | inr goes_on ↦ omega (arith, count_by_more_no begins_char text n 0 within goes_on, ap {B = ℕ} (λ t. cond t 1 0) goes_on)
    ]

-- there are no more characters than bytes
pub chars_bound : (text : List ℕ) (i : ℕ) → chars_before text i ≤ i
chars_bound text i = omega (arith, count_by-le-length begins_char (take i text), length-take i text)

-- there is a count for each byte of the text and for its end
pub counts_reach : (text : List ℕ) (i : ℕ) → i ≤ length text → i / 128 < length (char_counts text)
counts_reach text i within = omega (arith, length-map-range_with_len (λ k. chars_before text (k * 128)) 0 (length text / 128 + 1))

-- it is the count up to the last multiple of 128
pub count_found : (text : List ℕ) (i d : ℕ) → i ≤ length text → get_or (char_counts text) (i / 128) d ≡ chars_before text (i / 128 * 128)
count_found text i d within =
    get_or-map-range_with_len (λ k. chars_before text (k * 128)) 0 (length text / 128 + 1) (i / 128) (i / 128) d (omega arith) (omega arith)
