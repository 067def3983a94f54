-- Where pieces and parts end: between two characters.
use Rattle.std.proofs.Common.{◌≡◌, ◌≢◌, ◌<◌, ◌≤◌, ◌+◌, ◌-◌, inl, inr, ℕ, List, [], ◌∷◌, ◌++◌, length, length-append, length-take, drop, take, get_or, nat_eq, codes, true, Some, None, refl, ap, sym, subst, ◌∙◌, arith}
use Rattle.std.specs.List.{starts_with}
use Rattle.std.specs.Str.{IsCharBoundary, IsUtf8}
use Rattle.std.proofs.lemmas.Bool.{cases_lt}
use Rattle.std.proofs.lemmas.Bool.Decides.{nat_tests}
use Rattle.std.proofs.lemmas.List.{get_or-append_right, get_or-drop, get_or-take, get_or_past, take_more}
use Rattle.std.proofs.lemmas.List.Elements.{All-push}
use Rattle.std.proofs.lemmas.Slice.Eq.{bytes_eq-Decides}
use Rattle.std.proofs.lemmas.Str.{IsCharBoundary-after_ascii}
use Rattle.lrpar_grammar_words.specs.declared.words.Piece.{Piece}
use Rattle.lrpar_grammar_words.specs.Forms.{IsBlank, IsClosedComment, IsLineComment, IsPieceText, IsWhite}
use Rattle.lrpar_grammar_words.specs.Words.{is_white, piece_at}
use Rattle.lrpar_grammar_words.proofs.LongestLemmas.{pieces_are_longest}
use Rattle.lrpar_grammar_yacc.specs.Parts.{EndsAtAscii}

-- a byte of a sign
pub sign_byte : (s p : List ℕ) (k : ℕ) → starts_with nat_eq s p ≡ true → k < length p → get_or s k 0 ≡ get_or p k 0
sign_byte s p k starts within =
    let same : p ≡ take (length p) s = (bytes_eq-Decides p (take (length p) s)).0 starts in
    sym (ap (λ l. get_or l k 0) same ∙ get_or-take (length p) s k 0 within)

-- a sign lies in the text
pub sign_within : (s p : List ℕ) → starts_with nat_eq s p ≡ true → length p ≤ length s
sign_within s p starts =
    let same : p ≡ take (length p) s = (bytes_eq-Decides p (take (length p) s)).0 starts in
    omega (arith, ap length same, length-take (length p) s)

-- the end of what begins at n, seen from the start
pub ends_later : (s : List ℕ) (n m : ℕ) → EndsAtAscii (drop n s) m → EndsAtAscii s (n + m)
ends_later s n m (inl after) = inl (omega (arith, get_or-drop n s m 0))
ends_later s n m (inr before) =
    let some : 0 < m = before.0 in
    let place : n + (m - 1) ≡ (n + m) - 1 = omega arith in
    inr (omega arith, omega (arith, before.1, get_or-drop n s (m - 1) 0, ap (λ k. get_or s k 0) place))

-- such an end lies between two characters
pub ends_boundary : (text : List ℕ) (place n : ℕ) → IsUtf8 text → place + n ≤ length text → EndsAtAscii (drop place text) n → IsCharBoundary text (place + n)
ends_boundary text place n utf8 within end = boundary (ends_later text place n end)
  where
    boundary : EndsAtAscii text (place + n) → IsCharBoundary text (place + n)
    boundary (inl after) = (within, λ _ high. absurd (omega arith))
    boundary (inr before) =
        let next : (place + n - 1) + 1 ≡ place + n = omega (arith, before.0) in
        subst (IsCharBoundary text) next (IsCharBoundary-after_ascii text (place + n - 1) utf8 (omega (arith, before.0)) before.1)

-- a blank byte
white_ends : (s : List ℕ) (n : ℕ) → n ≤ length s → IsWhite (take n s) → EndsAtAscii s n
white_ends s n within white =
    let one : n ≡ 1 = omega (arith, length-take n s, ap length white.is) in
    let byte : get_or s 0 0 ≡ white.byte = sym (get_or-take n s 0 0 (omega arith)) ∙ ap (λ l. get_or l 0 0) white.is in
    let ascii : white.byte < 128 = white_ascii white.byte white.white in
    let place : n - 1 ≡ 0 = omega arith in
    inr (omega arith, omega (arith, ap (λ k. get_or s k 0) place))
  where
    white_ascii : (c : ℕ) → is_white c ≡ true → c < 128
    white_ascii c white = grind (arith, nat_tests)

-- a comment that is closed
closed_ends : (s : List ℕ) (n : ℕ) → n ≤ length s → IsClosedComment (take n s) → EndsAtAscii s n
closed_ends s n within closed =
    let m = length closed.text in
    let len : n ≡ 2 + (m + 2) = omega (arith, length-take n s, ap length closed.is, length-append (codes "/*") (closed.text ++ codes "*/"), length-append closed.text (codes "*/")) in
    let place : n - 1 ≡ m + 3 = omega arith in
    let after : (m + 3) - 2 ≡ m + 1 = omega arith in
    let last : (m + 1) - m ≡ 1 = omega arith in
    let byte : get_or s (n - 1) 0 ≡ 47 =
    sym (get_or-take n s (n - 1) 0 (omega arith)) ∙ ap (λ l. get_or l (n - 1) 0) closed.is ∙ ap (λ k. get_or (codes "/*" ++ (closed.text ++ codes "*/")) k 0) place
    ∙ get_or-append_right (codes "/*") (closed.text ++ codes "*/") 2 (m + 3) 0 refl (omega arith) ∙ ap (λ k. get_or (closed.text ++ codes "*/") k 0) after
    ∙ get_or-append_right closed.text (codes "*/") m (m + 1) 0 refl (omega arith) ∙ ap (λ k. get_or (codes "*/") k 0) last in
    inr (omega arith, omega arith)

-- a comment to the end of the line
line_ends : (s : List ℕ) (n : ℕ) → n ≤ length s → IsLineComment (take n s) → ((m : ℕ) → m ≤ length s → IsLineComment (take m s) → m ≤ n) → EndsAtAscii s n
line_ends s n within line longest =
    elim (cases_lt (get_or s n 0) 128) [
      | inl low ↦ inl low
      | inr high ↦ absurd (longer high)
    ]
  where
    longer : 128 ≤ get_or s n 0 → ⊥
    longer high =
        let inside : n < length s = elim (cases_lt n (length s)) [ inl lt ↦ lt | inr past ↦ absurd (omega (arith, get_or_past s n 0 past)) ] in
        let other : get_or s n 0 ≢ 10 = λ is. omega arith in
        let more : IsLineComment (take (n + 1) s) =
        record {
          line = line.line ++ get_or s n 0 ∷ [];
          on_line = All-push (λ c. c ≢ 10) line.line (get_or s n 0) line.on_line other;
          is = take_more s n 0 inside ∙ ap (λ l. l ++ get_or s n 0 ∷ []) line.is;
        } in
        omega (arith, longest (n + 1) (omega arith) more)

-- blanks
pub blank_ends : (s : List ℕ) (x : Piece) → piece_at s ≡ Some x → x.word ≡ None → EndsAtAscii s x.len
blank_ends s x is none =
    let longest = (pieces_are_longest s x).0 is in
    let n = x.len in
    let blank : IsBlank (take n s) = subst (λ w. IsPieceText w (take n s)) none longest.is in
    elim blank [
      | inl white ↦ white_ends s n longest.within white
      | inr comment ↦ elim comment [
        | inl line ↦ line_ends s n longest.within line (λ m few is. longest.longest m None few (inr (inl is)))
        | inr closed ↦ closed_ends s n longest.within closed
      ]
    ]
