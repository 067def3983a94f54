-- Sets of tokens by their words: a set has a token exactly if the words have its bit.
use Rattle.std.proofs.Common.{◌≡◌, ◌≢◌, ◌<◌, ◌≤◌, ◌↔◌, ◌∙◌, ◌∷◌, ◌||◌, ◌&&◌, ◌==◌, refl, sym, ap, subst, inl, inr, arith, ℕ, zero, suc, Bool, true, false, IsTrue, List, [], cond, length, nat_lt, not, zero-add}
use Rattle.std.specs.Cmp.Lexicographic.{slice_cmp}
use Rattle.std.specs.Cmp.{nat_cmp_is}
use Rattle.std.specs.Ordering.{MatchOrdering, bool_cmp, is_eq, nat_cmp, ordering_then}
use Rattle.std.specs.declared.cmp.Ordering.{Ordering}
use Rattle.std.specs.declared.cmp.Ordering.TheVariants.{Less, Equal, Greater}
use Rattle.std.proofs.Math.ListN.{get_or-eq_default}
use Rattle.std.proofs.lemmas.Bool.{and_from, and_left, and_right, cases_Bool, cases_lt, le-ltb, lt-ltb, ltb-true, ne_eqb, or_from, or_left, or_right}
use Rattle.std.proofs.lemmas.List.{ext_get_or}
use Rattle.std.proofs.lemmas.List.Sums.{sum_by-cons}
use Rattle.std.proofs.lemmas.List.FromFn.{get_or-map-range_with_len, length-map-range_with_len}
use Rattle.lrpar_grammar.specs.Tokens.{CoversAll, HaveCommon, PutsToken, UnitesBelow, has, missing}
use Rattle.lrpar_grammar.specs.Words.{AddsBelow, AddsBit, AreComparedAs, AreWordsFor, CoverBelow, HaveOneBoth, bits_of, token_bit}

-- it has room for as many tokens as there are bits
pub room_is : (len : ℕ) (words : List ℕ) → length (bits_of len words) ≡ len
room_is len words = length-map-range_with_len (token_bit words) 0 len

-- a set of the words has a token exactly if they have its bit
pub has_is : (len : ℕ) (words : List ℕ) → AreWordsFor len words → (t : ℕ) → has (bits_of len words) t ≡ token_bit words t
has_is len words are t =
    elim (cases_lt t len) [
      | inl here ↦ get_or-map-range_with_len (token_bit words) 0 len t t false here (zero-add t)
      | inr past ↦ get_or-eq_default (bits_of len words) false (subst (λ n. n ≤ t) (sym (room_is len words)) past) ∙ sym (are.none t past)
    ]

-- sets with room for as many tokens are the same if they have the same tokens
pub same_sets : (bits others : List Bool) → length bits ≡ length others → ((t : ℕ) → has bits t ≡ has others t) → bits ≡ others
same_sets bits others long same = ext_get_or false bits others long (λ t _. same t)

-- if no token is lost, no more are missing
none_lost : (bits others : List Bool) → length bits ≡ length others → ((t : ℕ) → IsTrue (has bits t) → IsTrue (has others t)) → missing others ≤ missing bits
none_lost [] [] long kept = omega arith
none_lost [] (y ∷ ys) long kept = absurd (omega (arith, long))
none_lost (x ∷ xs) [] long kept = absurd (omega (arith, long))
none_lost (true ∷ xs) (true ∷ ys) long kept =
    let rest = none_lost xs ys (omega (arith, long)) (λ t. kept (suc t)) in
    let here = sum_by-cons (λ (b : Bool). cond (not b) 1 0) true xs in
    let there = sum_by-cons (λ (b : Bool). cond (not b) 1 0) true ys in omega (arith, rest, here, there)
none_lost (true ∷ xs) (false ∷ ys) long kept = let lost = kept 0 refl in absurd (cc)
none_lost (false ∷ xs) (true ∷ ys) long kept =
    let rest = none_lost xs ys (omega (arith, long)) (λ t. kept (suc t)) in
    let more = sum_by-cons (λ (b : Bool). cond (not b) 1 0) false xs in
    let other = sum_by-cons (λ (b : Bool). cond (not b) 1 0) true ys in omega (arith, rest, more, other)
none_lost (false ∷ xs) (false ∷ ys) long kept =
    let rest = none_lost xs ys (omega (arith, long)) (λ t. kept (suc t)) in
    let more = sum_by-cons (λ (b : Bool). cond (not b) 1 0) false xs in let other = sum_by-cons (λ (b : Bool). cond (not b) 1 0) false ys in omega (arith, rest, more, other)

-- and if as many are missing, the sets are the same
pub fewer_missing : (bits others : List Bool) → length bits ≡ length others → ((t : ℕ) → IsTrue (has bits t) → IsTrue (has others t)) → bits ≢ others
    → missing others < missing bits
fewer_missing [] [] long kept differ = absurd (differ refl)
fewer_missing [] (y ∷ ys) long kept differ = absurd (omega (arith, long))
fewer_missing (x ∷ xs) [] long kept differ = absurd (omega (arith, long))
fewer_missing (true ∷ xs) (true ∷ ys) long kept differ =
    let rest = fewer_missing xs ys (omega (arith, long)) (λ t. kept (suc t)) (λ same. differ (ap (λ zs. true ∷ zs) same)) in
    let here = sum_by-cons (λ (b : Bool). cond (not b) 1 0) true xs in
    let there = sum_by-cons (λ (b : Bool). cond (not b) 1 0) true ys in omega (arith, rest, here, there)
fewer_missing (true ∷ xs) (false ∷ ys) long kept differ = let lost = kept 0 refl in absurd (cc)
fewer_missing (false ∷ xs) (true ∷ ys) long kept differ =
    let rest = none_lost xs ys (omega (arith, long)) (λ t. kept (suc t)) in
    let more = sum_by-cons (λ (b : Bool). cond (not b) 1 0) false xs in
    let other = sum_by-cons (λ (b : Bool). cond (not b) 1 0) true ys in omega (arith, rest, more, other)
fewer_missing (false ∷ xs) (false ∷ ys) long kept differ =
    let rest = fewer_missing xs ys (omega (arith, long)) (λ t. kept (suc t)) (λ same. differ (ap (λ zs. false ∷ zs) same)) in
    let more = sum_by-cons (λ (b : Bool). cond (not b) 1 0) false xs in let other = sum_by-cons (λ (b : Bool). cond (not b) 1 0) false ys in omega (arith, rest, more, other)

-- sets are compared by the first token that is in one of them alone
pub compare_less : (bits others : List Bool) (token : ℕ) → ((t : ℕ) → t < token → has bits t ≡ has others t) → has bits token ≡ false → has others token ≡ true
    → slice_cmp bool_cmp bits others ≡ Less
compare_less [] [] token same here there = absurd (cc)
compare_less [] (y ∷ ys) token same here there = refl
compare_less (x ∷ xs) [] token same here there = absurd (cc)
compare_less (true ∷ xs) (y ∷ ys) zero same here there = absurd (cc)
compare_less (false ∷ xs) (true ∷ ys) zero same here there = refl
compare_less (false ∷ xs) (false ∷ ys) zero same here there = absurd (cc)
compare_less (true ∷ xs) (true ∷ ys) (suc token) same here there = compare_less xs ys token (λ t less. same (suc t) (omega (arith, less))) here there
compare_less (true ∷ xs) (false ∷ ys) (suc token) same here there = let first = same 0 (omega arith) in absurd (cc)
compare_less (false ∷ xs) (true ∷ ys) (suc token) same here there = let first = same 0 (omega arith) in absurd (cc)
compare_less (false ∷ xs) (false ∷ ys) (suc token) same here there = compare_less xs ys token (λ t less. same (suc t) (omega (arith, less))) here there

pub compare_greater : (bits others : List Bool) (token : ℕ) → ((t : ℕ) → t < token → has bits t ≡ has others t) → has bits token ≡ true → has others token ≡ false
    → slice_cmp bool_cmp bits others ≡ Greater
compare_greater [] [] token same here there = absurd (cc)
compare_greater [] (y ∷ ys) token same here there = absurd (cc)
compare_greater (x ∷ xs) [] token same here there = refl
compare_greater (true ∷ xs) (true ∷ ys) zero same here there = absurd (cc)
compare_greater (true ∷ xs) (false ∷ ys) zero same here there = refl
compare_greater (false ∷ xs) (y ∷ ys) zero same here there = absurd (cc)
compare_greater (true ∷ xs) (true ∷ ys) (suc token) same here there = compare_greater xs ys token (λ t less. same (suc t) (omega (arith, less))) here there
compare_greater (true ∷ xs) (false ∷ ys) (suc token) same here there = let first = same 0 (omega arith) in absurd (cc)
compare_greater (false ∷ xs) (true ∷ ys) (suc token) same here there = let first = same 0 (omega arith) in absurd (cc)
compare_greater (false ∷ xs) (false ∷ ys) (suc token) same here there = compare_greater xs ys token (λ t less. same (suc t) (omega (arith, less))) here there

-- and by their rooms, if they have the same tokens
one_more : (o : Ordering) (m n : ℕ) → MatchOrdering o (m < n) (m ≡ n) (n < m) → MatchOrdering o (suc m < suc n) (suc m ≡ suc n) (suc n < suc m)
one_more Less m n h = omega (arith, h)
one_more Equal m n h = ap (λ k. suc k) h
one_more Greater m n h = omega (arith, h)

by_rooms : (bits others : List Bool) → ((t : ℕ) → has bits t ≡ has others t)
    → MatchOrdering (slice_cmp bool_cmp bits others) (length bits < length others) (length bits ≡ length others) (length others < length bits)
by_rooms [] [] same = refl
by_rooms [] (y ∷ ys) same = omega arith
by_rooms (x ∷ xs) [] same = omega arith
by_rooms (true ∷ xs) (true ∷ ys) same = one_more (slice_cmp bool_cmp xs ys) (length xs) (length ys) (by_rooms xs ys (λ t. same (suc t)))
by_rooms (true ∷ xs) (false ∷ ys) same = let first = same 0 in absurd (cc)
by_rooms (false ∷ xs) (true ∷ ys) same = let first = same 0 in absurd (cc)
by_rooms (false ∷ xs) (false ∷ ys) same = one_more (slice_cmp bool_cmp xs ys) (length xs) (length ys) (by_rooms xs ys (λ t. same (suc t)))

pub compare_rooms : (bits others : List Bool) → ((t : ℕ) → has bits t ≡ has others t) → slice_cmp bool_cmp bits others ≡ nat_cmp (length bits) (length others)
compare_rooms bits others same = nat_cmp_is (length bits) (length others) (slice_cmp bool_cmp bits others) (by_rooms bits others same)

-- words stay those for the tokens, if no bit past these was added
pub words_stay : (len : ℕ) (old new : List ℕ) → AreWordsFor len old → length new ≡ length old → ((t : ℕ) → len ≤ t → token_bit new t ≡ false) → AreWordsFor len new
words_stay len old new are long none = record { room = long ∙ are.room; none = none }

-- a set has the tokens whose bits its words have
pub set_has : (len : ℕ) (words : List ℕ) → AreWordsFor len words → (bits : List Bool) → bits_of len words ≡ bits → (t : ℕ) → has bits t ≡ token_bit words t
set_has len words are bits is t = sym (ap (λ (found : List Bool). has found t) is) ∙ has_is len words are t

-- words are compared as sets are
pub same_words : (words others : List ℕ) (o : Ordering) → AreComparedAs words others o → IsTrue (is_eq o) ↔ ((t : ℕ) → token_bit words t ≡ token_bit others t)
same_words words others Less compared = (
  λ equal. absurd (cc),
  λ same. let one = same compared.token in let here = compared.here in let there = compared.there in absurd (cc),
)
same_words words others Equal compared = (λ _. compared, λ _. refl)
same_words words others Greater compared = (
  λ equal. absurd (cc),
  λ same. let one = same compared.token in let here = compared.here in let there = compared.there in absurd (cc),
)

module _ (len : ℕ) (words : List ℕ) (are : AreWordsFor len words) (bits : List Bool) (is : bits_of len words ≡ bits)
    (room : ℕ) (others : List ℕ) (are_others : AreWordsFor room others) (other : List Bool) (is_other : bits_of room others ≡ other) where
  long : length bits ≡ len
  long = sym (ap (λ (found : List Bool). length found) is) ∙ room_is len words

  other_long : length other ≡ room
  other_long = sym (ap (λ (found : List Bool). length found) is_other) ∙ room_is room others

  as_sets : ((t : ℕ) → token_bit words t ≡ token_bit others t) → (t : ℕ) → has bits t ≡ has other t
  as_sets same t = set_has len words are bits is t ∙ same t ∙ sym (set_has room others are_others other is_other t)

  pub sets_compare : (o : Ordering) → AreComparedAs words others o → ordering_then o (nat_cmp len room) ≡ slice_cmp bool_cmp bits other
  sets_compare Less compared =
      sym (compare_less bits other compared.token
      (λ t less. set_has len words are bits is t ∙ compared.before t less ∙ sym (set_has room others are_others other is_other t))
      (set_has len words are bits is compared.token ∙ compared.here) (set_has room others are_others other is_other compared.token ∙ compared.there))
  sets_compare Equal compared = sym (compare_rooms bits other (as_sets compared) ∙ (λ i. nat_cmp (long i) (other_long i)))
  sets_compare Greater compared =
      sym (compare_greater bits other compared.token
      (λ t less. set_has len words are bits is t ∙ compared.before t less ∙ sym (set_has room others are_others other is_other t))
      (set_has len words are bits is compared.token ∙ compared.here) (set_has room others are_others other is_other compared.token ∙ compared.there))

  -- sets with the same words are the same
  pub sets_same : (o : Ordering) → AreComparedAs words others o → len ≡ room → IsTrue (is_eq o) ↔ (bits ≡ other)
  sets_same o compared rooms = (
    λ equal. same_sets bits other (long ∙ rooms ∙ sym other_long) (as_sets ((same_words words others o compared).0 equal)),
    λ same. (same_words words others o compared).1
        (λ t. sym (set_has len words are bits is t) ∙ ap (λ (found : List Bool). has found t) same ∙ set_has room others are_others other is_other t),
  )

  pub rooms_differ : bits ≡ other → len ≡ room
  rooms_differ same = sym long ∙ ap (λ (found : List Bool). length found) same ∙ other_long

  -- a set covers another one if its words have the bits of the other's tokens
  pub covers_all : CoverBelow words others room ↔ CoversAll bits other
  covers_all = (
    λ cover t in_other.
        let set = sym (set_has room others are_others other is_other t) ∙ in_other in
        elim (cases_lt t room) [
          | inl within ↦ set_has len words are bits is t ∙ cover t within set
          | inr past ↦ let none = are_others.none t past in absurd (cc)
        ],
    λ cover t within set. sym (set_has len words are bits is t) ∙ cover t (set_has room others are_others other is_other t ∙ set),
  )

  -- and nothing is added if the words have the bits of the other's tokens below an end
  pub covered_same : (end : ℕ) → CoverBelow words others end → UnitesBelow bits bits other end
  covered_same end cover t =
      elim (cases_Bool (has bits t)) [
        | inl in_set ↦ in_set ∙ ap (λ (b : Bool). b || (nat_lt t end && has other t)) (sym in_set)
        | inr out ↦
            elim (cases_Bool (nat_lt t end)) [
              | inr past ↦
                  out ∙ sym (or_from (has bits t) (nat_lt t end && has other t) out (and_left (nat_lt t end) (has other t) past))
              | inl less ↦
                  elim (cases_Bool (has other t)) [
                    | inr none ↦
                        out ∙ sym (or_from (has bits t) (nat_lt t end && has other t) out (and_right (nat_lt t end) (has other t) none))
                    | inl there ↦
                        let set = cover t (ltb-true t end less) (sym (set_has room others are_others other is_other t) ∙ there) in
                        let in_set = set_has len words are bits is t ∙ set in absurd (cc)
                  ]
            ]
      ]

  pub have_common : HaveOneBoth words others ↔ HaveCommon bits other
  have_common = (
    λ both. (both.0, set_has len words are bits is both.0 ∙ both.1, set_has room others are_others other is_other both.0 ∙ both.2),
    λ both. (both.0, sym (set_has len words are bits is both.0) ∙ both.1, sym (set_has room others are_others other is_other both.0) ∙ both.2),
  )

-- the words of a set to which a token, or the tokens of another one, were added
module _ (len : ℕ) (words : List ℕ) (are : AreWordsFor len words) (bits : List Bool) (is : bits_of len words ≡ bits) (new : List ℕ) where
  bits_long : length bits ≡ len
  bits_long = sym (ap (λ (found : List Bool). length found) is) ∙ room_is len words

  pub bit_stays : (token : ℕ) → length new ≡ length words → AddsBit words new token → token < length bits → AreWordsFor len new
  bit_stays token room adds within =
      words_stay len words new are room
      (λ t past. adds t ∙ or_from (token_bit words t) (t == token) (are.none t past) (ne_eqb t token (λ same. absurd (omega (arith, same, within, past, bits_long)))))

  pub puts_token : (token : ℕ) → length new ≡ length words → AddsBit words new token → token < length bits → PutsToken bits (bits_of len new) token
  puts_token token room adds within t =
      has_is len new (bit_stays token room adds within) t ∙ adds t ∙ ap (λ (b : Bool). b || t == token) (sym (set_has len words are bits is t))

  module _ (others : List ℕ) (end : ℕ) (room : length new ≡ length words) (adds : AddsBelow words new others end) (within : end ≤ length bits) where
    pub below_stays : AreWordsFor len new
    below_stays =
        words_stay len words new are room
        (λ t past.
        adds t
        ∙ or_from (token_bit words t) (nat_lt t end && token_bit others t) (are.none t past)
        (and_left (nat_lt t end) (token_bit others t) (le-ltb t end (omega (arith, past, within, bits_long)))))

    module _ (count : ℕ) (are_others : AreWordsFor count others) (other : List Bool) (is_other : bits_of count others ≡ other) where
      pub unites : UnitesBelow bits (bits_of len new) other end
      unites t =
          has_is len new below_stays t ∙ adds t
          ∙ (λ i. sym (set_has len words are bits is t) i || (nat_lt t end && sym (set_has count others are_others other is_other t) i))

      -- if a token was new, fewer are missing
      pub unites_more : ¬ (CoverBelow words others end) → missing (bits_of len new) < missing bits
      unites_more lack =
          fewer_missing bits (bits_of len new) (bits_long ∙ sym (room_is len new))
          (λ t in_set. unites t ∙ or_left (has bits t) (nat_lt t end && has other t) in_set)
          (λ same.
          lack
          (λ t less set.
          sym (set_has len words are bits is t) ∙ ap (λ (found : List Bool). has found t) same ∙ unites t
          ∙ or_right (has bits t) (nat_lt t end && has other t)
          (and_from (nat_lt t end) (has other t) (lt-ltb t end less) (set_has count others are_others other is_other t ∙ set))))
