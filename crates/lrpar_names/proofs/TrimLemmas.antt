-- What remains of a text if the characters that pass a test are cut off its start, or off its end, if they are all ASCII.
use Rattle.std.proofs.Common.{◌≡◌, ℕ, ◌+◌, ◌-◌, ◌<◌, ◌≤◌, Bool, true, false, List, [], ◌∷◌, ◌++◌, length, take, drop, get_or, Option, Some, None, inl, inr, sym, subst, ◌∙◌, ap, arith, encode_utf8, IfSome, length-take-le, length-drop, take-take, take_all, drop-drop, get_or-drop, get_or-take, below_more}
use Rattle.std.specs.Char.{IsScalar, char_set_contains, len_utf8}
use Rattle.std.specs.List.{suffix_len}
use Rattle.std.specs.Str.Pattern.{CutsPrefixes, CutsSuffixes, FindsPrefixBy, FindsSuffixBy, HasPassingCharAt, IsTrimEndMatches, IsTrimStartMatches}
use Rattle.std.proofs.lemmas.Bool.{cases_lt, false_from_ne_true, false≢true}
use Rattle.std.proofs.lemmas.Bool.Decides.{nat_tests}
use Rattle.std.proofs.lemmas.List.{drop_more, take_more}
use Rattle.std.proofs.lemmas.List.Sums.{prefix_len_is, suffix_len_is}
use Rattle.std.proofs.lemmas.Str.{encode_ascii, len_utf8_ascii}
use Rattle.std.proofs.lemmas.Str.Pattern.{drop_at_char}
use Rattle.lrpar_names.specs.Parts.{without_end, without_front}

-- `rest` is the text without some bytes at its start, which pass
record FrontCut (test : ℕ → Bool) (text rest : List ℕ) : Type 0 where
  cut : ℕ
  within : cut ≤ length text
  is : rest ≡ drop cut text
  passes : (j : ℕ) → j < cut → test (get_or text j 0) ≡ true

-- `rest` is the text without some bytes at its end, which pass
pub record EndCut (test : ℕ → Bool) (text rest : List ℕ) : Type 0 where
  pub kept : ℕ
  pub within : kept ≤ length text
  pub is : rest ≡ take kept text
  pub passes : (j : ℕ) → kept ≤ j → j < length text → test (get_or text j 0) ≡ true

-- the last byte of what remains fails
abbrev pub StopsAt : (ℕ → Bool) → List ℕ → ℕ → Type 0
StopsAt test text kept = 0 < kept → test (get_or text (kept - 1) 0) ≡ false

scalar_ascii : (c : ℕ) → c < 128 → IsScalar c
scalar_ascii c small = grind (arith, nat_tests)

module _ (test : ℕ → Bool) (ascii : (c : ℕ) → test c ≡ true → c < 128) where
  -- a character that passes is at the start: it is one byte
  at_front : (text : List ℕ) (width : ℕ) → HasPassingCharAt test text 0 width
      → (width ≡ 1) × (0 < length text) × (test (get_or text 0 0) ≡ true)
  at_front text width (c, passes, at) =
      let small : c < 128 = ascii c passes in
      let split : drop 0 text ≡ c ∷ drop width text = drop_at_char c text 0 width at small in
      let one : len_utf8 c ≡ 1 = len_utf8_ascii c small in (
        omega (arith, at.ends),
        omega (arith, ap length split),
        ap test (at.byte small) ∙ passes,
      )

  -- the same at the end
  at_end : (text : List ℕ) (width : ℕ) → HasPassingCharAt test text (length text - width) (length text)
      → (length text - width ≡ length text - 1) × (0 < length text) × (test (get_or text (length text - 1) 0) ≡ true)
  at_end text width (c, passes, at) =
      let small : c < 128 = ascii c passes in
      let one : len_utf8 c ≡ 1 = len_utf8_ascii c small in
      let ends : length text ≡ (length text - width) + 1 = at.ends ∙ ap (λ n. (length text - width) + n) one in
      let here : length text - width ≡ length text - 1 = omega arith in (
        here,
        omega arith,
        ap (λ i. test (get_or text i 0)) (sym here) ∙ ap test (at.byte small) ∙ passes,
      )

  -- one more is cut
  front_more : (text m : List ℕ) (width : ℕ) → FrontCut test text m → HasPassingCharAt test m 0 width → FrontCut test text (drop width m)
  front_more text m width cut at =
      let first = at_front m width at in
      let len : length m ≡ length text - cut.cut = ap length cut.is ∙ length-drop cut.cut text in
      let same : cut.cut + 0 ≡ cut.cut = omega arith in
      let here : get_or m 0 0 ≡ get_or text cut.cut 0 =
      ap (λ l. get_or l 0 0) cut.is ∙ get_or-drop cut.cut text 0 0 ∙ ap (λ i. get_or text i 0) same in
      record {
        cut = cut.cut + 1;
        within = omega (arith, first.1);
        is = ap (drop width) cut.is ∙ drop-drop width cut.cut text ∙ ap (λ w. drop (cut.cut + w) text) first.0;
        passes = below_more (λ j. test (get_or text j 0) ≡ true) cut.cut cut.passes (ap test (sym here) ∙ first.2);
      }

  end_more : (text m : List ℕ) (width : ℕ) → EndCut test text m → HasPassingCharAt test m (length m - width) (length m)
      → EndCut test text (take (length m - width) m)
  end_more text m width cut at =
      let last = at_end m width at in
      let len : length m ≡ cut.kept = ap length cut.is ∙ length-take-le cut.kept text cut.within in
      let less : length m - width ≡ cut.kept - 1 = omega (arith, last.0) in
      let some : 0 < cut.kept = omega (arith, last.1) in
      let before : cut.kept - 1 ≤ cut.kept = omega arith in
      let here : get_or m (length m - 1) 0 ≡ get_or text (cut.kept - 1) 0 =
      ap (λ i. get_or m (i - 1) 0) len ∙ ap (λ l. get_or l (cut.kept - 1) 0) cut.is ∙ get_or-take cut.kept text (cut.kept - 1) 0 (omega arith) in
      record {
        kept = cut.kept - 1;
        within = omega (arith, cut.within);
        is = ap (λ i. take i m) less ∙ ap (take (cut.kept - 1)) cut.is ∙ take-take (cut.kept - 1) cut.kept text before;
        passes = λ j from below. elim (cases_lt j cut.kept) [
          | inl under ↦ let at_last : j ≡ cut.kept - 1 = omega arith in
              ap (λ i. test (get_or text i 0)) at_last ∙ ap test (sym here) ∙ last.2
          | inr over ↦ cut.passes j over below
        ];
      }

  -- no more can be cut: the first byte fails
  front_stops : (rest : List ℕ) (found : Option ℕ) → FindsPrefixBy test rest found → IfSome found (λ n. n ≡ 0) → 0 < length rest
      → test (get_or rest 0 0) ≡ false
  front_stops rest None none _ some =
      let b : ℕ = get_or rest 0 0 in
      let split : rest ≡ b ∷ drop 1 rest = drop_more rest 0 0 some in
      false_from_ne_true (test b) (λ yes.
      let small : b < 128 = ascii b yes in
      let head : b ∷ drop 1 rest ≡ encode_utf8 b ++ drop 1 rest = ap (λ l. l ++ drop 1 rest) (sym (encode_ascii b small)) in
      false≢true (sym (none b (drop 1 rest) (scalar_ascii b small) (split ∙ head)) ∙ yes))
  front_stops rest (Some n) found zero some =
      let one : n ≡ 1 = (at_front rest n found).0 in
      absurd (omega arith)

  -- the same at the end
  end_stops : (rest : List ℕ) (found : Option ℕ) → FindsSuffixBy test rest found → IfSome found (λ n. n ≡ 0) → 0 < length rest
      → test (get_or rest (length rest - 1) 0) ≡ false
  end_stops rest None none _ some =
      let last : ℕ = length rest - 1 in
      let b : ℕ = get_or rest last 0 in
      let back : last + 1 ≡ length rest = omega arith in
      let split : rest ≡ take last rest ++ b ∷ [] =
      sym (take_all (length rest) rest (omega arith)) ∙ ap (λ n. take n rest) (sym back) ∙ take_more rest last 0 (omega arith) in
      false_from_ne_true (test b) (λ yes.
      let small : b < 128 = ascii b yes in
      let tail : take last rest ++ b ∷ [] ≡ take last rest ++ encode_utf8 b = ap (λ l. take last rest ++ l) (sym (encode_ascii b small)) in
      false≢true (sym (none b (take last rest) (scalar_ascii b small) (split ∙ tail)) ∙ yes))
  end_stops rest (Some n) found zero some =
      let here : length rest - n ≡ length rest - 1 = (at_end rest n found).0 in
      absurd (omega arith)

  module _ (R : List ℕ → Option ℕ → Type 0) where
    front_cut : ((m : List ℕ) (found : Option ℕ) → R m found → FindsPrefixBy test m found) → (text rest widths : List ℕ)
        → CutsPrefixes R text widths rest → FrontCut test text rest
    front_cut says text rest [] is = record { cut = 0; within = omega arith; is = is; passes = λ j less. absurd (omega arith) }
    front_cut says text rest (width ∷ widths) (m, cuts, found, is) =
        subst (FrontCut test text) (sym is) (front_more text m width (front_cut says text m widths cuts) (says m (Some width) found))

    end_cut : ((m : List ℕ) (found : Option ℕ) → R m found → FindsSuffixBy test m found) → (text rest widths : List ℕ)
        → CutsSuffixes R text widths rest → EndCut test text rest
    end_cut says text rest [] is =
        record { kept = length text; within = omega arith; is = is ∙ sym (take_all (length text) text (omega arith)); passes = λ j from below. absurd (omega arith) }
    end_cut says text rest (width ∷ widths) (m, cuts, found, is) =
        subst (EndCut test text) (sym is) (end_more text m width (end_cut says text m widths cuts) (says m (Some width) found))

    -- what `trim_start_matches` leaves
    pub front_trimmed : (text rest : List ℕ) → IsTrimStartMatches R text rest
        → ((m : List ℕ) (found : Option ℕ) → R m found → FindsPrefixBy test m found) → rest ≡ without_front test text
    front_trimmed text rest ((widths, cuts), (found, is, zero)) says =
        let cut = front_cut says text rest widths cuts in
        let len : length rest ≡ length text - cut.cut = ap length cut.is ∙ length-drop cut.cut text in
        let same : cut.cut + 0 ≡ cut.cut = omega arith in
        let here : get_or rest 0 0 ≡ get_or text cut.cut 0 =
        ap (λ l. get_or l 0 0) cut.is ∙ get_or-drop cut.cut text 0 0 ∙ ap (λ i. get_or text i 0) same in
        let stops : cut.cut < length text → test (get_or text cut.cut 0) ≡ false =
        λ (less : cut.cut < length text). ap test (sym here) ∙ front_stops rest found (says rest found is) zero (omega arith) in
        cut.is ∙ ap (λ n. drop n text) (sym (prefix_len_is test text cut.cut 0 cut.within cut.passes stops))

    -- what `trim_end_matches` leaves
    pub end_trimmed : (text rest : List ℕ) → IsTrimEndMatches R text rest
        → ((m : List ℕ) (found : Option ℕ) → R m found → FindsSuffixBy test m found)
        → (cut : EndCut test text rest) × StopsAt test text cut.kept
    end_trimmed text rest ((widths, cuts), (found, is, zero)) says =
        let cut = end_cut says text rest widths cuts in
        let len : length rest ≡ cut.kept = ap length cut.is ∙ length-take-le cut.kept text cut.within in (
          cut,
          λ some.
              let here : get_or rest (length rest - 1) 0 ≡ get_or text (cut.kept - 1) 0 =
              ap (λ i. get_or rest (i - 1) 0) len ∙ ap (λ l. get_or l (cut.kept - 1) 0) cut.is ∙ get_or-take cut.kept text (cut.kept - 1) 0 (omega arith) in
              ap test (sym here) ∙ end_stops rest found (says rest found is) zero (omega arith),
        )

-- so what remains is the text without the longest such end
pub cut_is_all : (test : ℕ → Bool) (text rest : List ℕ) (cut : EndCut test text rest) → StopsAt test text cut.kept → rest ≡ without_end test text
cut_is_all test text rest cut stops =
    let len : suffix_len test text ≡ length text - cut.kept = suffix_len_is test text cut.kept 0 cut.within cut.passes stops in
    let within : cut.kept ≤ length text = cut.within in
    let kept : cut.kept ≡ length text - suffix_len test text = omega arith in
    cut.is ∙ ap (λ n. take n text) kept

-- what `trim_start_matches` and `trim_end_matches` find for a list of characters
abbrev pub FindsFront : List ℕ → List ℕ → Option ℕ → Type 0
FindsFront set text found = (test : ℕ → Bool) → ((c : ℕ) → char_set_contains set c ≡ test c) → FindsPrefixBy test text found

abbrev pub FindsEnd : List ℕ → List ℕ → Option ℕ → Type 0
FindsEnd set text found = (test : ℕ → Bool) → ((c : ℕ) → char_set_contains set c ≡ test c) → FindsSuffixBy test text found
