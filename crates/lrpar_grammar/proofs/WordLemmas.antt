-- Words of 64 bits by their bits.
use Rattle.std.proofs.Common.{◌≡◌, ◌≢◌, ◌<◌, ◌≤◌, ◌+◌, ◌*◌, ◌-◌, ◌/◌, ◌%◌, ◌^◌, ◌==◌, ◌∙◌, ◌||◌, ◌&&◌, sym, ap, subst, inl, inr, arith, ℕ, Bool, true, false, IsTrue, List, length, min, nat_lt, slice_set}
use Rattle.std.specs.Prelude.{bit_and, bit_or, bit_xor}
use Rattle.std.specs.Int.{bit_at, bit_not, trailing_zeros, w64}
use Rattle.std.proofs.Math.Bool.{or-false, or-true}
use Rattle.std.proofs.Math.ListN.{get_or-eq_default}
use Rattle.std.proofs.lemmas.Bool.{and_left, and_parts, cases_Bool, cases_eq, cases_lt, eq-eqb, eqb-false, eqb-true, le-ltb, lt-ltb, ltb-true, ne_eqb}
use Rattle.std.proofs.lemmas.List.{get_or-set_other, get_or-set_same, length-set}
use Rattle.std.proofs.lemmas.Nat.{and_le_l, one_shl, xor_lt}
use Rattle.std.proofs.lemmas.Nat.Bits.{bit_at-lt, bit_at-trailing_zeros, bit_at-zero, bit_at_and, bit_at_not, bit_at_ones, bit_at_ones_above, bit_at_or, bit_at_set_other, bit_at_set_same, bit_at_xor}
use Rattle.lrpar_grammar.specs.Words.{AddsBelow, AddsBit, CoverBelow, DifferAt, HaveAny, HaveNone, HaveOneBoth, IsWordBelow, bit, token_bit, word_at}

-- a bit that is 1, and one that is 0
bit_yes : (word i : ℕ) → bit_at word i ≡ 1 → bit word i ≡ true
bit_yes word i one = eq-eqb (bit_at word i) 1 one

bit_no : (word i : ℕ) → bit_at word i ≡ 0 → bit word i ≡ false
bit_no word i none = ne_eqb (bit_at word i) 1 (λ one. absurd (omega (arith, none, one)))

one_of : (word i : ℕ) → bit word i ≡ true → bit_at word i ≡ 1
one_of word i set = eqb-true (bit_at word i) 1 set

none_of : (word i : ℕ) → bit word i ≡ false → bit_at word i ≡ 0
none_of word i clear =
    let low = bit_at-lt word i in
    let isnt : bit_at word i ≢ 1 = eqb-false (bit_at word i) 1 clear in omega (arith, low, isnt)

-- past the last word there is no bit
pub past_words : (words : List ℕ) (t : ℕ) → length words ≤ t / 64 → token_bit words t ≡ false
past_words words t past =
    ap (λ (word : ℕ). bit word (t % 64)) (get_or-eq_default words 0 past) ∙ bit_no 0 (t % 64) (bit_at-zero (t % 64))

-- the bit for token 64 * k + i is bit i of word k
pub at_word : (words : List ℕ) (k i : ℕ) → i < 64 → token_bit words (64 * k + i) ≡ bit (word_at words k) i
at_word words k i small =
    let word : (64 * k + i) / 64 ≡ k = omega (arith, small) in
    let place : (64 * k + i) % 64 ≡ i = omega (arith, small) in
    ap (λ (n : ℕ). bit (word_at words n) ((64 * k + i) % 64)) word ∙ ap (λ (n : ℕ). bit (word_at words k) n) place

-- and each token is one of these
pub of_word : (t : ℕ) → 64 * (t / 64) + t % 64 ≡ t
of_word t = omega arith

-- a word that isn't 0 has a lowest bit
abbrev HasLowest : ℕ → ℕ → Type 0
HasLowest word i = (i < 64) × (bit_at word i ≡ 1) × ((j : ℕ) → j < i → bit_at word j ≡ 0)

pub lowest : (word : ℕ) → word ≢ 0 → word < 2 ^ 64 → HasLowest word (trailing_zeros w64 word)
lowest word some fits =
    let pos : 0 < word = omega (arith, some) in bit_at-trailing_zeros w64 word pos fits

-- so words that aren't all 0 have a bit
pub have_one : (words : List ℕ) (k : ℕ) → word_at words k ≢ 0 → word_at words k < 2 ^ 64 → HaveAny words
have_one words k some fits =
    let low = lowest (word_at words k) some fits in
    let i = trailing_zeros w64 (word_at words k) in
    (64 * k + i, at_word words k i low.0 ∙ bit_yes (word_at words k) i low.1)

-- and words that are all 0 have none
pub have_none : (words : List ℕ) → ((k : ℕ) → k < length words → word_at words k ≡ 0) → HaveNone words
have_none words zeros t =
    elim (cases_lt (t / 64) (length words)) [
      | inl here ↦ ap (λ (word : ℕ). bit word (t % 64)) (zeros (t / 64) here) ∙ bit_no 0 (t % 64) (bit_at-zero (t % 64))
      | inr past ↦ past_words words t past
    ]

-- a word was set
pub other_word : (words : List ℕ) (k word t : ℕ) → t / 64 ≢ k → token_bit (slice_set words k word) t ≡ token_bit words t
other_word words k word t other = ap (λ (n : ℕ). bit n (t % 64)) (get_or-set_other words k (t / 64) word 0 other)

pub this_word : (words : List ℕ) (k word t : ℕ) → k < length words → t / 64 ≡ k → token_bit (slice_set words k word) t ≡ bit word (t % 64)
this_word words k word t within here =
    ap (λ (n : ℕ). bit (word_at (slice_set words k word) n) (t % 64)) here
    ∙ ap (λ (n : ℕ). bit n (t % 64)) (get_or-set_same words k word 0 within)

-- one bit was added
pub adds_bit : (words : List ℕ) (token : ℕ) → token / 64 < length words
    → AddsBit words (slice_set words (token / 64) (bit_or (word_at words (token / 64)) (1 * 2 ^ (token % 64) % 2 ^ 64))) token
adds_bit words token within t =
    let k = token / 64 in
    let word = word_at words k in
    let small : token % 64 < 64 = omega arith in
    elim (cases_eq (t / 64) k) [
      | inl here ↦
          let bits = this_word words k (bit_or word (1 * 2 ^ (token % 64) % 2 ^ 64)) t within here in
          let old : token_bit words t ≡ bit word (t % 64) = ap (λ (n : ℕ). bit (word_at words n) (t % 64)) here in
          elim (cases_eq (t % 64) (token % 64)) [
            | inl place ↦
                let is : t ≡ token = omega (arith, here, place) in
                bits ∙ ap (λ (n : ℕ). bit (bit_or word (1 * 2 ^ (token % 64) % 2 ^ 64)) n) place
                ∙ bit_yes _ (token % 64) (bit_at_set_same w64 word (token % 64) small)
                ∙ sym (or-true (token_bit words t)) ∙ ap (λ (b : Bool). token_bit words t || b) (sym (eq-eqb t token is))
            | inr apart ↦
                let isnt : t ≢ token = λ is. apart (ap (λ (n : ℕ). n % 64) is) in
                bits ∙ ap (λ (n : ℕ). n == 1) (bit_at_set_other w64 word (token % 64) small (t % 64) apart) ∙ sym old
                ∙ sym (or-false (token_bit words t)) ∙ ap (λ (b : Bool). token_bit words t || b) (sym (ne_eqb t token isnt))
          ]
      | inr apart ↦
          let isnt : t ≢ token = λ is. apart (ap (λ (n : ℕ). n / 64) is) in
          other_word words k (bit_or word (1 * 2 ^ (token % 64) % 2 ^ 64)) t apart
          ∙ sym (or-false (token_bit words t)) ∙ ap (λ (b : Bool). token_bit words t || b) (sym (ne_eqb t token isnt))
    ]

-- the bits below an end: all of the word, those below the rest, or none
pub all_below : (words : List ℕ) (k end : ℕ) → k < end / 64 → IsWordBelow words k end (word_at words k)
all_below words k end less i small =
    let below : 64 * k + i < end = omega (arith, less, small) in
    ap (λ (b : Bool). b && bit (word_at words k) i) (sym (lt-ltb (64 * k + i) end below))

pub none_below : (words : List ℕ) (k end : ℕ) → end / 64 < k → IsWordBelow words k end 0
none_below words k end more i small =
    let past : end ≤ 64 * k + i = omega (arith, more, small) in
    bit_no 0 i (bit_at-zero i) ∙ ap (λ (b : Bool). b && bit (word_at words k) i) (sym (le-ltb (64 * k + i) end past))

mask_is : (r : ℕ) → r < 64 → 1 * 2 ^ r % 2 ^ 64 ≡ 2 ^ r
mask_is r small = one_shl r 64 small

pub some_below : (words : List ℕ) (k end : ℕ) → k ≡ end / 64 → IsWordBelow words k end (bit_and (word_at words k) (1 * 2 ^ (end % 64) % 2 ^ 64 - 1))
some_below words k end is i small =
    let word = word_at words k in
    let r = end % 64 in
    let within : r < 64 = omega arith in
    let mask : 1 * 2 ^ r % 2 ^ 64 - 1 ≡ 2 ^ r - 1 = ap (λ (n : ℕ). n - 1) (mask_is r within) in
    let bits : bit_at (bit_and word (1 * 2 ^ r % 2 ^ 64 - 1)) i ≡ min (bit_at word i) (bit_at (2 ^ r - 1) i) =
    ap (λ (n : ℕ). bit_at (bit_and word n) i) mask ∙ bit_at_and word (2 ^ r - 1) i in
    let low = bit_at-lt word i in
    elim (cases_lt i r) [
      | inl here ↦
          let below : 64 * k + i < end = omega (arith, is, here) in
          let same : bit_at (bit_and word (1 * 2 ^ r % 2 ^ 64 - 1)) i ≡ bit_at word i = omega (arith, bits, bit_at_ones r i here, low) in
          ap (λ (n : ℕ). n == 1) same ∙ ap (λ (b : Bool). b && bit word i) (sym (lt-ltb (64 * k + i) end below))
      | inr past ↦
          let above : end ≤ 64 * k + i = omega (arith, is, past) in
          let none : bit_at (bit_and word (1 * 2 ^ r % 2 ^ 64 - 1)) i ≡ 0 = omega (arith, bits, bit_at_ones_above r i past) in
          bit_no _ i none ∙ ap (λ (b : Bool). b && bit word i) (sym (le-ltb (64 * k + i) end above))
    ]

-- words with a bit in common, by a word
pub have_both : (words others : List ℕ) (k other : ℕ) → other ≡ word_at others k → word_at words k < 2 ^ 64 → bit_and (word_at words k) other ≢ 0
    → HaveOneBoth words others
have_both words others k other is fits some =
    let both = bit_and (word_at words k) (word_at others k) in
    let small = and_le_l (word_at words k) (word_at others k) in
    let low = lowest both (subst (λ (n : ℕ). bit_and (word_at words k) n ≢ 0) is some) (omega (arith, small, fits)) in
    let i = trailing_zeros w64 both in
    let bits = sym (bit_at_and (word_at words k) (word_at others k) i) ∙ low.1 in
    let here = bit_at-lt (word_at words k) i in
    let there = bit_at-lt (word_at others k) i in (
      64 * k + i,
      at_word words k i low.0 ∙ bit_yes (word_at words k) i (omega (arith, bits, here, there)),
      at_word others k i low.0 ∙ bit_yes (word_at others k) i (omega (arith, bits, here, there)),
    )

-- and words without
pub have_no_both : (words others : List ℕ) → ((k : ℕ) → k < length words → bit_and (word_at words k) (word_at others k) ≡ 0) → HaveOneBoth words others → ⊥
have_no_both words others zeros both =
    let t = both.0 in
    let k = t / 64 in
    let i = t % 64 in
    let here = one_of (word_at words k) i both.1 in
    let there = one_of (word_at others k) i both.2 in
    elim (cases_lt k (length words)) [
      | inl within ↦
          let bits = sym (bit_at_and (word_at words k) (word_at others k) i) ∙ ap (λ (n : ℕ). bit_at n i) (zeros k within) ∙ bit_at-zero i in
          absurd (omega (arith, bits, here, there))
      | inr past ↦ let none = past_words words t past in absurd (cc)
    ]

-- words that lack a bit of the others below the end
pub lack_one : (words others : List ℕ) (k end below word : ℕ) → IsWordBelow others k end below → below < 2 ^ 64 → word ≡ word_at words k → word < 2 ^ 64
    → bit_and below (bit_not w64 word) ≢ 0 → CoverBelow words others end → ⊥
lack_one words others k end below word is below_fits are fits some cover =
    let left = bit_and below (bit_not w64 word) in
    let small = and_le_l below (bit_not w64 word) in
    let low = lowest left some (omega (arith, small, below_fits)) in
    let i = trailing_zeros w64 left in
    let bits = sym (bit_at_and below (bit_not w64 word) i) ∙ low.1 in
    let isnt = bit_at_not w64 word i fits low.0 in
    let here = bit_at-lt word i in
    let comes : bit below i ≡ true = bit_yes below i (omega (arith, bits, bit_at-lt below i, bit_at-lt (bit_not w64 word) i)) in
    let parts = and_parts (nat_lt (64 * k + i) end) (bit (word_at others k) i) (sym (is i low.0) ∙ comes) in
    let has = one_of word i (ap (λ (n : ℕ). bit n i) are ∙ sym (at_word words k i low.0) ∙ cover (64 * k + i) (ltb-true (64 * k + i) end parts.0) (at_word others k i low.0 ∙ parts.1)) in
    omega (arith, bits, isnt, has, here)

-- one more word has the bits of the other
pub covers_word : (words others : List ℕ) (k end below word : ℕ) → IsWordBelow others k end below → word ≡ word_at words k → word < 2 ^ 64
    → bit_and below (bit_not w64 word) ≡ 0 → (t : ℕ) → t / 64 ≡ k → t < end → IsTrue (token_bit others t) → IsTrue (token_bit words t)
covers_word words others k end below word is are fits zero t here less set =
    let i = t % 64 in
    let small : i < 64 = omega arith in
    let inside : 64 * k + i < end = omega (arith, here, less) in
    let there : bit (word_at others k) i ≡ true = sym (ap (λ (n : ℕ). bit (word_at others n) i) here) ∙ set in
    let comes = one_of below i (is i small ∙ ap (λ (b : Bool). b && bit (word_at others k) i) (lt-ltb (64 * k + i) end inside) ∙ there) in
    let bits = sym (bit_at_and below (bit_not w64 word) i) ∙ ap (λ (n : ℕ). bit_at n i) zero ∙ bit_at-zero i in
    let isnt = bit_at_not w64 word i fits small in
    let low = bit_at-lt word i in
    ap (λ (n : ℕ). bit (word_at words n) i) here ∙ ap (λ (n : ℕ). bit n i) (sym are) ∙ bit_yes word i (omega (arith, bits, comes, isnt, low))

-- the bits of a union
or_bit : (word below i : ℕ) → bit (bit_or word below) i ≡ (bit word i || bit below i)
or_bit word below i =
    let both = bit_at_or word below i in
    let here = bit_at-lt word i in
    let there = bit_at-lt below i in
    elim (cases_Bool (bit word i)) [
      | inl set ↦
          let one = one_of word i set in
          bit_yes (bit_or word below) i (omega (arith, both, one, there)) ∙ ap (λ (b : Bool). b || bit below i) (sym set)
      | inr clear ↦
          let none : bit_at word i ≡ 0 = none_of word i clear in
          let same : bit_at (bit_or word below) i ≡ bit_at below i = omega (arith, both, none) in
          ap (λ (n : ℕ). n == 1) same ∙ ap (λ (b : Bool). b || bit below i) (sym clear)
    ]

-- the words before k have the bits of both, below the end, and the later ones are as they were
abbrev pub IsUnited : List ℕ → List ℕ → List ℕ → ℕ → ℕ → Type 0
IsUnited before now others k end =
    (length now ≡ length before)
    × ((t : ℕ) → t / 64 < k → token_bit now t ≡ (token_bit before t || (nat_lt t end && token_bit others t)))
    × ((t : ℕ) → k ≤ t / 64 → token_bit now t ≡ token_bit before t)

-- one more word has the bits of both
pub unites_word : (before now others : List ℕ) (k end below : ℕ) → k < length now → IsWordBelow others k end below
    → IsUnited before now others k end → IsUnited before (slice_set now k (bit_or (word_at now k) below)) others (k + 1) end
unites_word before now others k end below within is old =
    let word = bit_or (word_at now k) below in (
      length-set now k word ∙ old.0,
      λ t low.
          elim (cases_lt (t / 64) k) [
            | inl earlier ↦
                let apart : t / 64 ≢ k = λ same. absurd (omega (arith, earlier, same)) in
                other_word now k word t apart ∙ old.1 t earlier
            | inr late ↦
                let here : t / 64 ≡ k = omega (arith, low, late) in
                let i = t % 64 in
                let small : i < 64 = omega arith in
                let token : 64 * k + i ≡ t = omega (arith, here) in
                let was : bit (word_at now k) i ≡ token_bit before t = ap (λ (n : ℕ). bit (word_at now n) i) (sym here) ∙ old.2 t late in
                let other : bit (word_at others k) i ≡ token_bit others t = ap (λ (n : ℕ). bit (word_at others n) i) (sym here) in
                this_word now k word t within here ∙ or_bit (word_at now k) below i
                ∙ (λ j. was j || is i small j)
                ∙ (λ j. token_bit before t || (nat_lt (token j) end && other j))
          ],
      λ t late.
          let apart : t / 64 ≢ k = λ same. absurd (omega (arith, late, same)) in
          other_word now k word t apart ∙ old.2 t (omega (arith, late)),
    )

-- the words past the last one have nothing to add
pub united_all : (before now others : List ℕ) (k end : ℕ) → length before ≤ k → end ≤ 64 * length before → IsUnited before now others k end
    → AddsBelow before now others end
united_all before now others k end all room old t =
    elim (cases_lt (t / 64) k) [
      | inl here ↦ old.1 t here
      | inr past ↦
          let above : end ≤ t = omega (arith, room, past, all) in
          old.2 t past ∙ sym (or-false (token_bit before t)) ∙ ap (λ (b : Bool). token_bit before t || b) (sym (and_left (nat_lt t end) (token_bit others t) (le-ltb t end above)))
    ]

-- words are compared by the lowest bit in which two words differ
module _ (words others : List ℕ) (k word other : ℕ) (is : word ≡ word_at words k) (is_other : other ≡ word_at others k)
    (same : (j : ℕ) → j < k → word_at words j ≡ word_at others j) (some : bit_xor word other ≢ 0) (fits : word < 2 ^ 64) (other_fits : other < 2 ^ 64) where
  low : HasLowest (bit_xor word other) (trailing_zeros w64 (bit_xor word other))
  low = lowest (bit_xor word other) some (xor_lt 64 word other fits other_fits)

  pub place_fits : trailing_zeros w64 (bit_xor word other) < 64
  place_fits = low.0

  same_before : (t : ℕ) → t < 64 * k + trailing_zeros w64 (bit_xor word other) → token_bit words t ≡ token_bit others t
  same_before t less =
      elim (cases_lt (t / 64) k) [
        | inl earlier ↦ ap (λ (n : ℕ). bit n (t % 64)) (same (t / 64) earlier)
        | inr late ↦
            let small = low.0 in
            let here : t / 64 ≡ k = omega (arith, less, late, small) in
            let i = t % 64 in
            let lower : i < trailing_zeros w64 (bit_xor word other) = omega (arith, less, here) in
            let bits = sym (bit_at_xor word other i) ∙ low.2 i lower in
            let a = bit_at-lt word i in
            let b = bit_at-lt other i in
            let equal : bit_at word i ≡ bit_at other i = omega (arith, bits, a, b) in
            ap (λ (n : ℕ). bit (word_at words n) i) here ∙ ap (λ (n : ℕ). bit n i) (sym is) ∙ ap (λ (n : ℕ). n == 1) equal
            ∙ ap (λ (n : ℕ). bit n i) is_other ∙ ap (λ (n : ℕ). bit (word_at others n) i) (sym here)
      ]

  one_alone : (bit_at word (trailing_zeros w64 (bit_xor word other)) + bit_at other (trailing_zeros w64 (bit_xor word other))) % 2 ≡ 1
  one_alone = sym (bit_at_xor word other (trailing_zeros w64 (bit_xor word other))) ∙ low.1

  pub differ_less : bit other (trailing_zeros w64 (bit_xor word other)) ≡ true → DifferAt words others false true
  differ_less set =
      let i = trailing_zeros w64 (bit_xor word other) in
      let there = one_of other i set in
      let here : bit_at word i ≡ 0 = omega (arith, one_alone, there, bit_at-lt word i) in
      record {
        token = 64 * k + i;
        before = same_before;
        here = at_word words k i low.0 ∙ ap (λ (n : ℕ). bit n i) (sym is) ∙ bit_no word i here;
        there = at_word others k i low.0 ∙ ap (λ (n : ℕ). bit n i) (sym is_other) ∙ set;
      }

  pub differ_greater : bit other (trailing_zeros w64 (bit_xor word other)) ≡ false → DifferAt words others true false
  differ_greater clear =
      let i = trailing_zeros w64 (bit_xor word other) in
      let there = none_of other i clear in
      let here : bit_at word i ≡ 1 = omega (arith, one_alone, there, bit_at-lt word i) in
      record {
        token = 64 * k + i;
        before = same_before;
        here = at_word words k i low.0 ∙ ap (λ (n : ℕ). bit n i) (sym is) ∙ bit_yes word i here;
        there = at_word others k i low.0 ∙ ap (λ (n : ℕ). bit n i) (sym is_other) ∙ clear;
      }
