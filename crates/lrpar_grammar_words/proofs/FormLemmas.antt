-- A piece that is read is a word or blanks.
use Rattle.std.proofs.Common.{◌≡◌, ◌≢◌, ◌<◌, ◌≤◌, ◌+◌, ◌==◌, ◌||◌, ◌&&◌, ◌⊎◌, not, nat_eq, nat_lt, ℕ, zero, suc, Bool, true, false, cond, List, [], ◌∷◌, ◌++◌, codes, drop, get_or, length, length-take, take, Option, Some, None, option_map, inl, inr, refl, ap, sym, subst, ◌∙◌, arith}
use Rattle.std.specs.List.{All, position_or_len, prefix_len, starts_with}
use Rattle.std.proofs.lemmas.Bool.{false≢true, ltb-true}
use Rattle.std.proofs.lemmas.Bool.Decides.{Decides-eqb}
use Rattle.std.proofs.lemmas.List.{get_or-take, length-append, length-take-le, take-append-drop, take-take, take_more}
use Rattle.std.proofs.lemmas.List.Elements.{All-weaker}
use Rattle.std.proofs.lemmas.List.Sums.{fails_before_first, prefix_len-le-length, prefix_len_passes}
use Rattle.std.proofs.lemmas.Option.{same_Some}
use Rattle.std.proofs.lemmas.Slice.Eq.{starts_is}
use Rattle.lrpar_grammar_words.specs.declared.words.Piece.{Piece}
use Rattle.lrpar_grammar_words.specs.declared.words.WordKind.{WordKind}
use Rattle.lrpar_grammar_words.specs.declared.words.WordKind.TheVariants.{Name, Quoted, StartSign, TokenSign, EppSign, RulesSign, Colon, Bar, Semicolon}
use Rattle.lrpar_grammar_words.specs.Words.{begins_name, blank_piece, closed_len, comment_after, is_byte_at, is_in_name, is_white, name_after, piece_at, piece_from, quoted_after, sign_after, word_piece}
use Rattle.lrpar_grammar_words.specs.Forms.{IsPieceText}

-- a text begins with another one, if the test says so
pub starts : (s p : List ℕ) → starts_with nat_eq s p ≡ true → s ≡ p ++ drop (length p) s
starts s p is = (starts_is Decides-eqb s p (starts_with nat_eq s p) refl).0 is

-- and the test says so if it does
pub starts_true : (s p rest : List ℕ) → s ≡ p ++ rest → starts_with nat_eq s p ≡ true
starts_true s p rest is = (starts_is Decides-eqb s p (starts_with nat_eq s p) refl).1 rest is

-- a text begins with this piece
pub record Begins (s : List ℕ) (x : Piece) : Type 0 where
  pub within : x.len ≤ length s
  pub is : IsPieceText x.word (take x.len s)

-- by a test that chooses one of two results
either : (b : Bool) (l r : Option Piece) (s : List ℕ) (x : Piece) → cond b l r ≡ Some x → (b ≡ true → l ≡ Some x → Begins s x) → (b ≡ false → r ≡ Some x → Begins s x) → Begins s x
either true l r s x is left right = left refl is
either false l r s x is left right = right refl is

-- the result is this piece
found : (s : List ℕ) (x y : Piece) → ◌≡◌ {A = Option Piece} (Some y) (Some x) → Begins s y → Begins s x
found s x y same begins = subst (Begins s) (same_Some y x same) begins

-- one of two tests is true
one_of : (a b : Bool) → (a || b) ≡ true → (a ≡ true) ⊎ (b ≡ true)
one_of true b is = inl refl
one_of false b is = inr is

-- both tests are true
both_of : (a b : Bool) → (a && b) ≡ true → (a ≡ true) × (b ≡ true)
both_of true b is = (refl, is)
both_of false b is = absurd (cc)

-- what holds of each of the first elements
first_all : (q : ℕ → Bool) (s : List ℕ) → All (λ c. q c ≡ true) (take (prefix_len q s) s)
first_all q s = λ k d below.
    let within : k < prefix_len q s = omega (arith, length-take (prefix_len q s) s) in
    subst (λ c. q c ≡ true) (sym (get_or-take (prefix_len q s) s k d within)) (prefix_len_passes q s k d within)

-- the same for those before the first one that passes
before_all : (p : ℕ → Bool) (s : List ℕ) → All (λ c. p c ≡ false) (take (position_or_len p s) s)
before_all p s = λ k d below.
    let within : k < position_or_len p s = omega (arith, length-take (position_or_len p s) s) in
    subst (λ c. p c ≡ false) (sym (get_or-take (position_or_len p s) s k d within)) (fails_before_first p s k d within)

-- white space
white_begins : (c : ℕ) (t : List ℕ) → is_white c ≡ true → Begins (c ∷ t) (blank_piece 1)
white_begins c t white = record { within = omega arith; is = inl (record { byte = c; white = white; is = refl }) }

-- a name
name_begins : (c : ℕ) (t : List ℕ) (x : Piece) → name_after c t ≡ Some x → Begins (c ∷ t) x
unfolding name_after
name_begins c t x is =
    let n = prefix_len is_in_name t in
    let more : 1 + n ≡ suc n = omega arith in
    let few : n ≤ length t = prefix_len-le-length is_in_name t in
    either (begins_name c) _ _ (c ∷ t) x is
    (λ begins same. found (c ∷ t) x (word_piece Name (1 + n)) same (record {
      within = omega arith;
      is = record { first = c; others = take n t; begins = begins; goes_on = first_all is_in_name t; is = ap (λ k. take k (c ∷ t)) more };
    }))
    (λ _ none. absurd (cc))

-- a sign: `%`, and then p
sign_begins : (t p : List ℕ) (kind : WordKind) (len : ℕ) → length p < len → len ≤ length p + 1 → starts_with nat_eq t p ≡ true → ((u : List ℕ) → IsPieceText (Some kind) (take len (37 ∷ (p ++ u))))
    → Begins (37 ∷ t) (word_piece kind len)
sign_begins t p kind len more few is reads =
    let u = drop (length p) t in
    let same : t ≡ p ++ u = starts t p is in
    let long : length t ≡ length p + length u = ap length same ∙ length-append p u in
    record { within = omega arith; is = subst (λ v. IsPieceText (Some kind) (take len (37 ∷ v))) (sym same) (reads u) }

-- a sign
signs_begin : (t : List ℕ) (x : Piece) → sign_after t ≡ Some x → Begins (37 ∷ t) x
unfolding sign_after
signs_begin t x is =
    either (starts_with nat_eq t (codes "start")) _ _ (37 ∷ t) x is
    (λ passes same. found (37 ∷ t) x (word_piece StartSign 6) same (sign_begins t (codes "start") StartSign 6 (omega arith) (omega arith) passes (λ u. refl)))
    (λ _ is2. either (starts_with nat_eq t (codes "token")) _ _ (37 ∷ t) x is2
    (λ passes same. found (37 ∷ t) x (word_piece TokenSign 6) same (sign_begins t (codes "token") TokenSign 6 (omega arith) (omega arith) passes (λ u. refl)))
    (λ _ is3. either (starts_with nat_eq t (codes "epp")) _ _ (37 ∷ t) x is3
    (λ passes same. found (37 ∷ t) x (word_piece EppSign 4) same (sign_begins t (codes "epp") EppSign 4 (omega arith) (omega arith) passes (λ u. refl)))
    (λ _ is4. either (starts_with nat_eq t (codes "%")) _ _ (37 ∷ t) x is4
    (λ passes same. found (37 ∷ t) x (word_piece RulesSign 2) same (sign_begins t (codes "%") RulesSign 2 (omega arith) (omega arith) passes (λ u. refl)))
    (λ _ none. absurd (cc)))))

-- a byte is none that the test looks for
other_byte : (c d : ℕ) → (c == d) ≡ false → c ≡ d → ⊥
other_byte c d is same = false≢true (sym is ∙ (Decides-eqb c d).1 same)

-- neither of two tests is true
neither_of : (a b : Bool) → (a || b) ≡ false → (a ≡ false) × (b ≡ false)
neither_of true b is = absurd (cc)
neither_of false b is = (refl, is)

-- a quoted text
quoted_begins : (quote : ℕ) (t : List ℕ) (x : Piece) → (quote ≡ 39) ⊎ (quote ≡ 34) → quoted_after quote t ≡ Some x → Begins (quote ∷ t) x
unfolding quoted_after
quoted_begins quote t x quotes is =
    let p = λ (c : ℕ). (c == quote) || (c == 10) in
    let n = position_or_len p t in
    either (nat_lt 0 n && is_byte_at t n quote) _ _ (quote ∷ t) x is
    (λ passes same.
    let tests = both_of (nat_lt 0 n) (is_byte_at t n quote) passes in
    let some : 0 < n = ltb-true 0 n tests.0 in
    let closed = both_of (nat_lt n (length t)) (get_or t n 0 == quote) tests.1 in
    let within : n < length t = ltb-true n (length t) closed.0 in
    let byte : get_or t n 0 ≡ quote = (Decides-eqb (get_or t n 0) quote).0 closed.1 in
    let more : n + 2 ≡ suc (n + 1) = omega arith in
    let front : length (take n t) ≡ n = length-take-le n t (omega arith) in
    found (quote ∷ t) x (word_piece Quoted (n + 2)) same (record {
      within = omega arith;
      is = record {
        quote = quote;
        text = take n t;
        quotes = quotes;
        some = λ empty. let none : length (take n t) ≡ 0 = ap length empty in absurd (omega arith);
        unquoted = All-weaker (λ c. p c ≡ false) (λ c. (c ≢ quote) × (c ≢ 10))
            (λ c fails. let apart = neither_of (c == quote) (c == 10) fails in (other_byte c quote apart.0, other_byte c 10 apart.1)) (take n t) (before_all p t);
        is = ap (λ k. take k (quote ∷ t)) more ∙ ap (λ s. quote ∷ s) (take_more t n 0 within ∙ ap (λ c. take n t ++ c ∷ []) byte);
      };
    }))
    (λ _ none. absurd (cc))

-- the first n bytes of s end with the first `*/`
record Closes (s : List ℕ) (n : ℕ) : Type 0 where
  pub text : List ℕ
  pub unclosed : (k : ℕ) → k < length text → take 2 (drop k (text ++ codes "*/")) ≢ codes "*/"
  pub is : take n s ≡ text ++ codes "*/"
  pub within : n ≤ length s
  pub long : 2 ≤ n

-- no `*/` ends earlier, with one more byte at the start
first_closes : (c : ℕ) (s text : List ℕ) → take 2 (c ∷ (text ++ codes "*/")) ≡ take 2 (c ∷ s) → starts_with nat_eq (c ∷ s) (codes "*/") ≡ false
    → ((k : ℕ) → k < length text → take 2 (drop k (text ++ codes "*/")) ≢ codes "*/") → (k : ℕ) → k < suc (length text) → take 2 (drop k (c ∷ (text ++ codes "*/"))) ≢ codes "*/"
first_closes c s text same fails rest zero below is =
    let whole : c ∷ s ≡ codes "*/" ++ drop 2 (c ∷ s) = sym (take-append-drop 2 (c ∷ s)) ∙ ap (λ u. u ++ drop 2 (c ∷ s)) (sym same ∙ is) in
    false≢true (sym fails ∙ starts_true (c ∷ s) (codes "*/") (drop 2 (c ∷ s)) whole)
first_closes c s text same fails rest (suc k) below is = rest k (omega arith) is

-- one more byte at the start
closes_more : (c : ℕ) (s : List ℕ) (m : ℕ) → starts_with nat_eq (c ∷ s) (codes "*/") ≡ false → Closes s m → Closes (c ∷ s) (m + 1)
closes_more c s m fails rest =
    let more : m + 1 ≡ suc m = omega arith in
    let whole : take (m + 1) (c ∷ s) ≡ c ∷ (rest.text ++ codes "*/") = ap (λ k. take k (c ∷ s)) more ∙ ap (λ u. c ∷ u) rest.is in
    let two : 2 ≤ m + 1 = let long : 2 ≤ m = rest.long in omega arith in
    record {
      text = c ∷ rest.text;
      unclosed = first_closes c s rest.text (ap (take 2) (sym whole) ∙ take-take 2 (m + 1) (c ∷ s) two) fails rest.unclosed;
      is = whole;
      within = let few : m ≤ length s = rest.within in omega arith;
      long = two;
    }

-- `*/` is at the start of s
closes_here : (s : List ℕ) → starts_with nat_eq s (codes "*/") ≡ true → Closes s 2
closes_here s passes =
    let whole : s ≡ codes "*/" ++ drop 2 s = starts s (codes "*/") passes in
    let long : length s ≡ length (codes "*/" ++ drop 2 s) = ap length whole in
    record { text = []; unclosed = λ k below. absurd (omega arith); is = ap (take 2) whole; within = omega arith; long = omega arith }

-- by whether `*/` is at the start of s
closes_by : (b : Bool) (c : ℕ) (s : List ℕ) (n : ℕ) (r : Option ℕ) → starts_with nat_eq (c ∷ s) (codes "*/") ≡ b → cond b (Some 2) (option_map (λ k. k + 1) r) ≡ Some n
    → ((m : ℕ) → r ≡ Some m → Closes s m) → Closes (c ∷ s) n
closes_by true c s n r here is rest = let same : 2 ≡ n = same_Some 2 n is in subst (Closes (c ∷ s)) same (closes_here (c ∷ s) here)
closes_by false c s n None here is rest = absurd (cc)
closes_by false c s n (Some m) here is rest = let same : m + 1 ≡ n = same_Some (m + 1) n is in subst (Closes (c ∷ s)) same (closes_more c s m here (rest m refl))

-- the length of a comment that closes
closes : (s : List ℕ) (n : ℕ) → closed_len s ≡ Some n → Closes s n
closes [] n is = absurd (cc)
closes (c ∷ s) n is = closes_by (starts_with nat_eq (c ∷ s) (codes "*/")) c s n (closed_len s) refl is (closes s)

-- a comment that closes
closed_begins : (d : ℕ) (u : List ℕ) (x : Piece) (r : Option ℕ) → closed_len u ≡ r → d ≡ 42 → option_map (λ n. blank_piece (2 + n)) r ≡ Some x → Begins (47 ∷ d ∷ u) x
closed_begins d u x None is byte same = absurd (cc)
closed_begins d u x (Some n) is byte same =
    let k = closes u n is in
    let few : n ≤ length u = k.within in
    let more : 2 + n ≡ suc (suc n) = omega arith in
    found (47 ∷ d ∷ u) x (blank_piece (2 + n)) same (record {
      within = omega arith;
      is = inr (inr (record {
        text = k.text;
        unclosed = k.unclosed;
        is = ap (λ j. take j (47 ∷ d ∷ u)) more ∙ ap (λ e. 47 ∷ e ∷ take n u) byte ∙ ap (λ v. 47 ∷ 42 ∷ v) k.is;
      }));
    })

-- a comment to the end of its line
line_begins : (d : ℕ) (u : List ℕ) → d ≡ 47 → Begins (47 ∷ d ∷ u) (blank_piece (2 + position_or_len (λ c. c == 10) u))
line_begins d u byte =
    let n = position_or_len (λ c. c == 10) u in
    let few : n ≤ length u = prefix_len-le-length (λ c. not (c == 10)) u in
    let more : 2 + n ≡ suc (suc n) = omega arith in
    record {
      within = omega arith;
      is = inr (inl (record {
        line = take n u;
        on_line = All-weaker (λ c. (c == 10) ≡ false) (λ c. c ≢ 10) (λ c. other_byte c 10) (take n u) (before_all (λ c. c == 10) u);
        is = ap (λ j. take j (47 ∷ d ∷ u)) more ∙ ap (λ e. 47 ∷ e ∷ take n u) byte;
      }));
    }

-- a comment
comments_begin : (t : List ℕ) (x : Piece) → comment_after t ≡ Some x → Begins (47 ∷ t) x
unfolding comment_after
comments_begin [] x is = absurd (cc)
comments_begin (d ∷ u) x is =
    either (d == 47) _ _ (47 ∷ d ∷ u) x is
    (λ at same. found (47 ∷ d ∷ u) x (blank_piece (2 + position_or_len (λ c. c == 10) u)) same (line_begins d u ((Decides-eqb d 47).0 at)))
    (λ _ is2. either (d == 42) _ _ (47 ∷ d ∷ u) x is2
    (λ at same. closed_begins d u x (closed_len u) refl ((Decides-eqb d 42).0 at) same)
    (λ _ none. absurd (cc)))

-- which quote it is
which_quote : (c : ℕ) → ((c == 39) || (c == 34)) ≡ true → (c ≡ 39) ⊎ (c ≡ 34)
which_quote c is =
    elim (one_of (c == 39) (c == 34) is) [
      | inl at ↦ inl ((Decides-eqb c 39).0 at)
      | inr at ↦ inr ((Decides-eqb c 34).0 at)
    ]

-- a sign of one byte
byte_begins : (c k : ℕ) (t : List ℕ) (x : Piece) (kind : WordKind) → (c == k) ≡ true → ◌≡◌ {A = Option Piece} (Some (word_piece kind 1)) (Some x) → IsPieceText (Some kind) (k ∷ []) → Begins (c ∷ t) x
byte_begins c k t x kind at same is =
    subst (λ d. Begins (d ∷ t) x) (sym ((Decides-eqb c k).0 at)) (found (k ∷ t) x (word_piece kind 1) same (record { within = omega arith; is = is }))

-- any piece that is read
piece_begins : (c : ℕ) (t : List ℕ) (x : Piece) → piece_from c t ≡ Some x → Begins (c ∷ t) x
unfolding piece_from
piece_begins c t x is =
    either (is_white c) _ _ (c ∷ t) x is (λ white same. found (c ∷ t) x (blank_piece 1) same (white_begins c t white))
    (λ _ is2. either (c == 47) _ _ (c ∷ t) x is2 (λ at in_it. subst (λ d. Begins (d ∷ t) x) (sym ((Decides-eqb c 47).0 at)) (comments_begin t x in_it))
    (λ _ is3. either ((c == 39) || (c == 34)) _ _ (c ∷ t) x is3 (λ at in_it. quoted_begins c t x (which_quote c at) in_it)
    (λ _ is4. either (c == 37) _ _ (c ∷ t) x is4 (λ at in_it. subst (λ d. Begins (d ∷ t) x) (sym ((Decides-eqb c 37).0 at)) (signs_begin t x in_it))
    (λ _ is5. either (c == 58) _ _ (c ∷ t) x is5 (λ at same. byte_begins c 58 t x Colon at same refl)
    (λ _ is6. either (c == 124) _ _ (c ∷ t) x is6 (λ at same. byte_begins c 124 t x Bar at same refl)
    (λ _ is7. either (c == 59) _ _ (c ∷ t) x is7 (λ at same. byte_begins c 59 t x Semicolon at same refl)
    (λ _ in_it. name_begins c t x in_it)))))))

-- the text begins with the piece that is read
pub text_begins : (s : List ℕ) (x : Piece) → piece_at s ≡ Some x → Begins s x
text_begins [] x is = absurd (cc)
text_begins (c ∷ t) x is = piece_begins c t x is
