-- The lines that a part of a text touches, from one to the next, and where they start.
use Rattle.std.proofs.Common.{◌≡◌, ◌<◌, ◌≤◌, ◌+◌, ◌-◌, ℕ, zero, suc, true, false, cond, refl, sym, ap, ◌∙◌, arith, List, [], ◌∷◌, length, slice_index, inl, inr}
use Rattle.std.specs.List.{filter, range_with_len}
use Rattle.std.specs.Str.{IsCharBoundary, IsUtf8}
use Rattle.std.proofs.lemmas.Bool.{cases_eq}
use Rattle.std.proofs.lemmas.Bool.Decides.{nat_tests}
use Rattle.std.proofs.lemmas.List.Sums.{prefix_len-drop_yes, prefix_len-drop_no, prefix_len-drop_all}
use Rattle.std.proofs.lemmas.Str.{IsCharBoundary-after_ascii}
use Rattle.lrpar_grammar_places.specs.Lines.{is_line_feed, is_in_line, starts_line, line_end}
use Rattle.lrpar_diagnostics.specs.Underline.{starts_after, is_printed, printed_after}

-- a byte is a line feed, or it is in a line
is_feed : (b : ℕ) → b ≡ 10 → (is_line_feed b ≡ true) × (is_in_line b ≡ false)
is_feed b h = (grind (arith, nat_tests), grind (arith, nat_tests))

no_feed : (b : ℕ) → ¬ (b ≡ 10) → (is_line_feed b ≡ false) × (is_in_line b ≡ true)
no_feed b h = (grind (arith, nat_tests), grind (arith, nat_tests))

-- one byte on in a line
line_end_on : (src : List ℕ) (b : ℕ) → b < length src → ¬ (slice_index src b ≡ 10) → line_end src (b + 1) ≡ line_end src b
line_end_on src b within other = let e = prefix_len-drop_yes is_in_line src b 0 within (no_feed (slice_index src b) other).1 in omega (arith, e)

-- a line ends before a line feed
line_end_here : (src : List ℕ) (b : ℕ) → b < length src → slice_index src b ≡ 10 → line_end src b ≡ b
line_end_here src b within feed = let e = prefix_len-drop_no is_in_line src b 0 within (is_feed (slice_index src b) feed).1 in omega (arith, e)

-- and at the end of the text
line_end_last : (src : List ℕ) (b : ℕ) → length src ≤ b → line_end src b ≡ b
line_end_last src b past = let e = prefix_len-drop_all is_in_line src b past in omega (arith, e)

-- a line that ends in the text ends before a line feed
feed_at_end : (src : List ℕ) (b n : ℕ) → b + n ≡ length src → line_end src b < length src → slice_index src (line_end src b) ≡ 10
feed_at_end src b zero whole inside = absurd (let last = line_end_last src b (omega arith) in omega (arith, last))
feed_at_end src b (suc n) whole inside =
    elim (cases_eq (slice_index src b) 10) [
      | inl feed ↦ rw (line_end_here src b (omega arith) feed) feed
      | inr other ↦
          let on = line_end_on src b (omega arith) other in
          rw (sym on) (feed_at_end src (b + 1) n (omega arith) (omega (arith, on)))
    ]

-- a line starts between two characters
pub next_boundary : (src : List ℕ) (b : ℕ) → IsUtf8 src → b ≤ length src → line_end src b < length src → IsCharBoundary src (line_end src b + 1)
next_boundary src b utf8 within inside =
    let feed = feed_at_end src b (length src - b) (omega arith) inside in
    IsCharBoundary-after_ascii src (line_end src b) utf8 inside (omega (arith, feed))

-- no line starts after byte b up to the end of its line
after_last : (src : List ℕ) (b n : ℕ) → b + n ≤ length src → b + n ≤ line_end src b → filter (starts_line src) (range_with_len (b + 1) n) ≡ []
after_last src b zero within last = refl
after_last src b (suc n) within last =
    elim (cases_eq (slice_index src b) 10) [
      | inl feed ↦ absurd (let ends = line_end_here src b (omega arith) feed in omega (arith, ends))
      | inr other ↦
          let back : (b + 1) - 1 ≡ b = omega arith in
          let no : starts_line src (b + 1) ≡ false = rw back (no_feed (slice_index src b) other).0 in
          let on = line_end_on src b (omega arith) other in
          ap (λ v. cond v ((b + 1) ∷ filter (starts_line src) (range_with_len ((b + 1) + 1) n)) (filter (starts_line src) (range_with_len ((b + 1) + 1) n))) no
          ∙ after_last src (b + 1) n (omega arith) (omega (arith, on))
    ]

-- the first that starts there is after that end
after_next : (src : List ℕ) (b n : ℕ) → b + n ≤ length src → line_end src b < b + n
    → filter (starts_line src) (range_with_len (b + 1) n)
    ≡ (line_end src b + 1) ∷ filter (starts_line src) (range_with_len ((line_end src b + 1) + 1) (b + n - (line_end src b + 1)))
after_next src b zero within inside = absurd (omega (arith, inside))
after_next src b (suc n) within inside =
    elim (cases_eq (slice_index src b) 10) [
      | inl feed ↦
          let back : (b + 1) - 1 ≡ b = omega arith in
          let yes : starts_line src (b + 1) ≡ true = rw back (is_feed (slice_index src b) feed).0 in
          let ends = line_end_here src b (omega arith) feed in
          let left : b + suc n - (b + 1) ≡ n = omega arith in
          ap (λ v. cond v ((b + 1) ∷ filter (starts_line src) (range_with_len ((b + 1) + 1) n)) (filter (starts_line src) (range_with_len ((b + 1) + 1) n))) yes
          ∙ ap (λ m. (b + 1) ∷ filter (starts_line src) (range_with_len ((b + 1) + 1) m)) (sym left)
          ∙ ap (λ e. (e + 1) ∷ filter (starts_line src) (range_with_len ((e + 1) + 1) (b + suc n - (e + 1)))) (sym ends)
      | inr other ↦
          let back : (b + 1) - 1 ≡ b = omega arith in
          let no : starts_line src (b + 1) ≡ false = rw back (no_feed (slice_index src b) other).0 in
          let on = line_end_on src b (omega arith) other in
          let same : b + 1 + n ≡ b + suc n = omega arith in
          ap (λ v. cond v ((b + 1) ∷ filter (starts_line src) (range_with_len ((b + 1) + 1) n)) (filter (starts_line src) (range_with_len ((b + 1) + 1) n))) no
          ∙ after_next src (b + 1) n (omega arith) (omega (arith, on))
          ∙ ap (λ e. (e + 1) ∷ filter (starts_line src) (range_with_len ((e + 1) + 1) (b + 1 + n - (e + 1)))) on
          ∙ ap (λ m. (line_end src b + 1) ∷ filter (starts_line src) (range_with_len ((line_end src b + 1) + 1) (m - (line_end src b + 1)))) same
    ]

-- the lines after byte b, of a part that ends in its line
none_after : (src : List ℕ) (b end : ℕ) → b ≤ length src → end ≤ length src → end ≤ line_end src b → starts_after src b end ≡ []
none_after src b end within bound last = after_last src b (end - b) (omega arith) (omega (arith, last))

-- and of one that goes further
some_after : (src : List ℕ) (b end : ℕ) → b ≤ length src → end ≤ length src → line_end src b < end
    → starts_after src b end ≡ (line_end src b + 1) ∷ starts_after src (line_end src b + 1) end
some_after src b end within bound inside =
    let whole : b + (end - b) ≡ end = omega (arith, inside) in
    after_next src b (end - b) (omega arith) (omega (arith, inside))
    ∙ ap (λ m. (line_end src b + 1) ∷ filter (starts_line src) (range_with_len ((line_end src b + 1) + 1) (m - (line_end src b + 1)))) whole

-- those that are printed: none
pub none_printed : (src : List ℕ) (b end : ℕ) → b ≤ length src → end ≤ length src → end ≤ line_end src b → printed_after src b end ≡ []
none_printed src b end within bound last = ap (filter (is_printed src end)) (none_after src b end within bound last)

-- the next
pub next_printed : (src : List ℕ) (b end : ℕ) → b ≤ length src → end ≤ length src → line_end src b < end → is_printed src end (line_end src b + 1) ≡ true
    → printed_after src b end ≡ (line_end src b + 1) ∷ printed_after src (line_end src b + 1) end
next_printed src b end within bound inside shown =
    let next = line_end src b + 1 in
    ap (filter (is_printed src end)) (some_after src b end within bound inside)
    ∙ ap (λ v. cond v (next ∷ printed_after src next end) (printed_after src next end)) shown

-- the last one, without text, isn't
pub last_skipped : (src : List ℕ) (b end : ℕ) → b ≤ length src → end ≤ length src → line_end src b < end → is_printed src end (line_end src b + 1) ≡ false
    → end ≤ line_end src (line_end src b + 1) → printed_after src b end ≡ []
last_skipped src b end within bound inside hidden last =
    let next = line_end src b + 1 in
    ap (filter (is_printed src end)) (some_after src b end within bound inside)
    ∙ ap (λ v. cond v (next ∷ printed_after src next end) (printed_after src next end)) hidden
    ∙ none_printed src next end (omega arith) bound last

-- a line that isn't printed is the last
pub hidden_is_last : (src : List ℕ) (b end : ℕ) → is_printed src end b ≡ false → end ≤ line_end src b
hidden_is_last src b end hidden = grind (arith, nat_tests)
