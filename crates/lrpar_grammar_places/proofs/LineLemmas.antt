-- The starts and ends of lines, as seen from a byte: the starts up to it, and those past it.
use Rattle.std.proofs.Common.{leb, ◌≡◌, ◌<◌, ◌≤◌, ◌+◌, ◌-◌, ℕ, zero, suc, true, false, refl, sym, ap, subst, ◌∙◌, arith, List, [], ◌∷◌, ◌++◌, length, slice_index, take, get_or, cond, inl, inr, add-zero}
use Rattle.std.specs.List.{All, count_by, filter, range_with_len}
use Rattle.std.proofs.lemmas.Bool.{cases_eq, cases_lt, leb-true, le-leb}
use Rattle.std.proofs.lemmas.Bool.Decides.{nat_tests}
use Rattle.std.specs.List.Sorted.{IsPartitionedBy, IsPartitionPoint}
use Rattle.std.proofs.lemmas.List.{append-nil, get_or_at, get_or_append_left, get_or-append_right, length-append}
use Rattle.std.proofs.lemmas.List.Elements.{filter-append, All-filter}
use Rattle.std.proofs.lemmas.List.FromFn.{length-range_with_len, get_or-range_with_len}
use Rattle.std.proofs.lemmas.List.Sums.{suffix_len-take_yes, suffix_len-take_no, prefix_len-drop_yes, prefix_len-drop_no, prefix_len-drop_all, count_by_more_yes, count_by_more_no}
use Rattle.std.specs.Str.{IsCharBoundary, IsUtf8}
use Rattle.std.proofs.lemmas.Str.{IsCharBoundary-start, IsCharBoundary-after_ascii}
use Rattle.lrpar_grammar_places.specs.Lines.{is_line_feed, is_in_line, starts_line, line_start, line_end}

in_line : (b : ℕ) → ¬ (b ≡ 10) → is_in_line b ≡ true
in_line b h = grind (arith, nat_tests)

at_end : (b : ℕ) → b ≡ 10 → is_in_line b ≡ false
at_end b h = grind (arith, nat_tests)

is_feed : (b : ℕ) → b ≡ 10 → is_line_feed b ≡ true
is_feed b h = grind (arith, nat_tests)

no_feed : (b : ℕ) → ¬ (b ≡ 10) → is_line_feed b ≡ false
no_feed b h = grind (arith, nat_tests)

-- one byte back in a line
line_start_back : (text : List ℕ) (n : ℕ) → n < length text → ¬ (slice_index text n ≡ 10) → line_start text (n + 1) ≡ line_start text n
line_start_back text n l h =
    let same : (n + 1) - 1 ≡ n = omega arith in
    let inside : is_in_line (get_or text ((n + 1) - 1) 0) ≡ true = rw same (in_line (slice_index text n) h) in
    let e = rw same at (suffix_len-take_yes is_in_line text (n + 1) 0 (omega arith) (omega arith) inside) in
    omega (arith, e)

-- a line starts after a line feed
line_start_here : (text : List ℕ) (n : ℕ) → n < length text → slice_index text n ≡ 10 → line_start text (n + 1) ≡ n + 1
line_start_here text n l h =
    let same : (n + 1) - 1 ≡ n = omega arith in
    let feed : is_in_line (get_or text ((n + 1) - 1) 0) ≡ false = rw same (at_end (slice_index text n) h) in
    let e = suffix_len-take_no is_in_line text (n + 1) 0 (omega arith) (omega arith) feed in
    omega (arith, e)

-- one byte further in a line
line_end_on : (text : List ℕ) (n : ℕ) → n < length text → ¬ (slice_index text n ≡ 10) → line_end text (n + 1) ≡ line_end text n
line_end_on text n l h = let e = prefix_len-drop_yes is_in_line text n 0 l (in_line (slice_index text n) h) in omega (arith, e)

-- a line ends before a line feed
line_end_here : (text : List ℕ) (n : ℕ) → n < length text → slice_index text n ≡ 10 → line_end text n ≡ n
line_end_here text n l h = let e = prefix_len-drop_no is_in_line text n 0 l (at_end (slice_index text n) h) in omega (arith, e)

-- and at the end of the text
line_end_last : (text : List ℕ) (n : ℕ) → length text ≤ n → line_end text n ≡ n
line_end_last text n l = let e = prefix_len-drop_all is_in_line text n l in omega (arith, e)

-- the line starts among n bytes from byte a on
abbrev pub starts_among : List ℕ → ℕ → ℕ → List ℕ
starts_among text a n = filter (starts_line text) (range_with_len a n)

-- numbers in two parts
range_with_len-append : (a n m : ℕ) → range_with_len a (n + m) ≡ range_with_len a n ++ range_with_len (a + n) m
range_with_len-append a zero m = let none : zero + m ≡ m = omega arith in rw (none, add-zero)
range_with_len-append a (suc n) m =
    let more : suc n + m ≡ suc (n + m) = omega arith in
    let on : a + suc n ≡ (a + 1) + n = omega arith in
    rw (more, on) (ap (λ s. a ∷ s) (range_with_len-append (a + 1) n m))

-- the bounds of such numbers
range_within : (a n : ℕ) → All (λ s. (a ≤ s) × (s < a + n)) (range_with_len a n)
range_within a n k d within =
    let count : length (range_with_len a n) ≡ n = length-range_with_len a n in
    let at : get_or (range_with_len a n) k d ≡ a + k = get_or-range_with_len a n k d (omega arith) in
    (omega (arith, at), omega (arith, at, count))

-- line starts in two parts
pub starts_among-append : (text : List ℕ) (a n m : ℕ) → starts_among text a (n + m) ≡ starts_among text a n ++ starts_among text (a + n) m
starts_among-append text a n m =
    ap (filter (starts_line text)) (range_with_len-append a n m) ∙ filter-append (starts_line text) (range_with_len a n) (range_with_len (a + n) m)

-- one byte more, after a line feed
pub starts_among_feed : (text : List ℕ) (n : ℕ) → slice_index text n ≡ 10 → starts_among text 1 (n + 1) ≡ starts_among text 1 n ++ (n + 1) ∷ []
starts_among_feed text n h =
    let place : 1 + n ≡ n + 1 = omega arith in
    let back : (n + 1) - 1 ≡ n = omega arith in
    let feed : starts_line text (n + 1) ≡ true = rw back (is_feed (slice_index text n) h) in
    starts_among-append text 1 n 1 ∙ ap (λ k. starts_among text 1 n ++ starts_among text k 1) place ∙ ap (λ b. starts_among text 1 n ++ cond b ((n + 1) ∷ []) []) feed

-- one byte more, after any other byte
pub starts_among_other : (text : List ℕ) (n : ℕ) → ¬ (slice_index text n ≡ 10) → starts_among text 1 (n + 1) ≡ starts_among text 1 n
starts_among_other text n h =
    let place : 1 + n ≡ n + 1 = omega arith in
    let back : (n + 1) - 1 ≡ n = omega arith in
    let other : starts_line text (n + 1) ≡ false = rw back (no_feed (slice_index text n) h) in
    starts_among-append text 1 n 1 ∙ ap (λ k. starts_among text 1 n ++ starts_among text k 1) place
    ∙ ap (λ b. starts_among text 1 n ++ cond b ((n + 1) ∷ []) []) other ∙ append-nil (starts_among text 1 n)

-- the bounds of these starts
pub starts_among_within : (text : List ℕ) (a n : ℕ) → All (λ s. (a ≤ s) × (s < a + n)) (starts_among text a n)
starts_among_within text a n = All-filter (starts_line text) (λ s. (a ≤ s) × (s < a + n)) (range_with_len a n) (range_within a n)

-- so no later line starts at byte 0
pub starts_positive : (text : List ℕ) (n : ℕ) → All (λ s. 0 < s) (starts_among text 1 n)
starts_positive text n k d within = let h = starts_among_within text 1 n k d within in omega (arith, h.0)

-- the starts up to byte i are as many as the line feeds before it
pub starts_count : (text : List ℕ) (i : ℕ) → i ≤ length text → length (starts_among text 1 i) ≡ count_by is_line_feed (take i text)
starts_count text zero within = refl
starts_count text (suc i) within =
    let before = starts_count text i (omega arith) in
    let next : suc i ≡ i + 1 = omega arith in
    subst (λ n. length (starts_among text 1 n) ≡ count_by is_line_feed (take n text)) (sym next)
    (elim (cases_eq (slice_index text i) 10) [
      | inl feed ↦ ap length (starts_among_feed text i feed) ∙ length-append (starts_among text 1 i) ((i + 1) ∷ []) ∙ ap (λ n. n + 1) before
          ∙ sym (count_by_more_yes is_line_feed text i 0 (omega arith) (is_feed (slice_index text i) feed))
      | inr other ↦ ap length (starts_among_other text i other) ∙ before
          ∙ sym (count_by_more_no is_line_feed text i 0 (omega arith) (no_feed (slice_index text i) other))
    ])

-- the last start up to byte i is that of its line; if there is none, that is the first line
pub record IsFront (text front : List ℕ) (i : ℕ) : Type 0 where
  pub last : (d : ℕ) → 0 < length front → get_or front (length front - 1) d ≡ line_start text i
  pub first : length front ≡ 0 → line_start text i ≡ 0

pub starts_front : (text : List ℕ) (i : ℕ) → i ≤ length text → IsFront text (starts_among text 1 i) i
starts_front text zero within = record { last = λ d some. absurd (omega (arith, some)); first = λ _. omega arith }
starts_front text (suc i) within =
    let before = starts_front text i (omega arith) in
    let next : suc i ≡ i + 1 = omega arith in
    subst (λ n. IsFront text (starts_among text 1 n) n) (sym next)
    (elim (cases_eq (slice_index text i) 10) [
      | inl feed ↦
          let front = starts_among text 1 i in
          let len : length (front ++ (i + 1) ∷ []) ≡ length front + 1 = length-append front ((i + 1) ∷ []) in
          let place : length (front ++ (i + 1) ∷ []) - 1 ≡ length front = omega arith in
          subst (λ s. IsFront text s (i + 1)) (sym (starts_among_feed text i feed)) (record {
            last = λ d some. rw place (get_or_at front (i + 1) [] d (length front) refl) ∙ sym (line_start_here text i (omega arith) feed);
            first = λ none. absurd (omega (arith, none, len));
          })
      | inr other ↦
          let same : line_start text i ≡ line_start text (i + 1) = sym (line_start_back text i (omega arith) other) in
          subst (λ s. IsFront text s (i + 1)) (sym (starts_among_other text i other)) (record {
            last = λ d some. before.last d some ∙ same;
            first = λ none. sym same ∙ before.first none;
          })
    ])

-- the first start past byte i is after the end of its line; if there is none, that is the last line
pub record IsRest (text rest : List ℕ) (i : ℕ) : Type 0 where
  pub next : (d : ℕ) → 0 < length rest → get_or rest 0 d ≡ line_end text i + 1
  pub last : length rest ≡ 0 → line_end text i ≡ length text

pub starts_rest : (text : List ℕ) (i n : ℕ) → i + n ≡ length text → IsRest text (starts_among text (i + 1) n) i
starts_rest text i zero whole = record { next = λ d some. absurd (omega (arith, some)); last = λ _. line_end_last text i (omega arith) ∙ omega arith }
starts_rest text i (suc n) whole =
    let after = starts_rest text (i + 1) n (omega arith) in
    let back : (i + 1) - 1 ≡ i = omega arith in
    elim (cases_eq (slice_index text i) 10) [
      | inl feed ↦
          let yes : starts_line text (i + 1) ≡ true = rw back (is_feed (slice_index text i) feed) in
          let is : starts_among text (i + 1) (suc n) ≡ (i + 1) ∷ starts_among text ((i + 1) + 1) n =
          ap (λ b. cond b ((i + 1) ∷ starts_among text ((i + 1) + 1) n) (starts_among text ((i + 1) + 1) n)) yes in
          let ends = line_end_here text i (omega arith) feed in
          subst (λ s. IsRest text s i) (sym is) (record { next = λ d some. ap (λ n. n + 1) (sym ends); last = λ none. absurd (omega (arith, none)) })
      | inr other ↦
          let no : starts_line text (i + 1) ≡ false = rw back (no_feed (slice_index text i) other) in
          let is : starts_among text (i + 1) (suc n) ≡ starts_among text ((i + 1) + 1) n =
          ap (λ b. cond b ((i + 1) ∷ starts_among text ((i + 1) + 1) n) (starts_among text ((i + 1) + 1) n)) no in
          let ends : line_end text (i + 1) ≡ line_end text i = line_end_on text i (omega arith) other in
          subst (λ s. IsRest text s i) (sym is) (record { next = λ d some. after.next d some ∙ ap (λ n. n + 1) ends; last = λ none. sym ends ∙ after.last none })
    ]

-- all starts of a text, and those up to byte i and past it
abbrev pub all_starts : List ℕ → List ℕ
all_starts text = starts_among text 1 (length text)

all_starts-cut : (text : List ℕ) (i : ℕ) → i ≤ length text → all_starts text ≡ starts_among text 1 i ++ starts_among text (1 + i) (length text - i)
all_starts-cut text i within =
    let whole : length text ≡ i + (length text - i) = omega arith in
    ap (starts_among text 1) whole ∙ starts_among-append text 1 i (length text - i)

-- the first starts, as many as there are line feeds before byte i, are at most i
pub starts_up_to : (text : List ℕ) (i k d : ℕ) → i ≤ length text → k < count_by is_line_feed (take i text) → get_or (all_starts text) k d ≤ i
starts_up_to text i k d within below =
    let front = starts_among text 1 i in
    let inside : k < length front = omega (arith, starts_count text i within) in
    let same : get_or (all_starts text) k d ≡ get_or front k d =
    ap (λ s. get_or s k d) (all_starts-cut text i within) ∙ get_or_append_left front (starts_among text (1 + i) (length text - i)) d k inside in
    let bounds = starts_among_within text 1 i k d inside in
    omega (arith, bounds.1)

-- and the others are past it
pub starts_past : (text : List ℕ) (i k d : ℕ) → i ≤ length text → count_by is_line_feed (take i text) ≤ k → k < length (all_starts text) → i < get_or (all_starts text) k d
starts_past text i k d within above inside =
    let front = starts_among text 1 i in
    let rest = starts_among text (1 + i) (length text - i) in
    let count = starts_count text i within in
    let cut = all_starts-cut text i within in
    let same : get_or (all_starts text) k d ≡ get_or rest (k - length front) d =
    ap (λ s. get_or s k d) cut ∙ get_or-append_right front rest (length front) k d refl (omega (arith, count)) in
    let lengths : length (all_starts text) ≡ length front + length rest = ap length cut ∙ length-append front rest in
    let bounds = starts_among_within text (1 + i) (length text - i) (k - length front) d (omega (arith, count, lengths)) in
    omega (arith, bounds.0)

-- there are at least as many starts
all_starts-length : (text : List ℕ) (i : ℕ) → i ≤ length text → count_by is_line_feed (take i text) ≤ length (all_starts text)
all_starts-length text i within =
    let front = starts_among text 1 i in
    let rest = starts_among text (1 + i) (length text - i) in
    let lengths : length (all_starts text) ≡ length front + length rest = ap length (all_starts-cut text i within) ∙ length-append front rest in
    omega (arith, starts_count text i within, lengths)

-- so the starts up to byte i come before the others
pub starts_parted : (text : List ℕ) (i : ℕ) → i ≤ length text → IsPartitionedBy (λ s. leb s i) (all_starts text)
starts_parted text i within j k d before inside up_to =
    elim (cases_lt j (count_by is_line_feed (take i text))) [
      | inl below ↦ le-leb (get_or (all_starts text) j d) i (starts_up_to text i j d within below)
      | inr above ↦
          let low : get_or (all_starts text) k d ≤ i = leb-true (get_or (all_starts text) k d) i up_to in
          let high = starts_past text i k d within (omega arith) inside in
          absurd (omega arith)
    ]

-- and the number of these starts is the number of line feeds before byte i
pub part_is_count : (text : List ℕ) (i k : ℕ) → i ≤ length text → k ≤ length (all_starts text)
    → IsPartitionPoint (λ s. leb s i ≡ true) (λ s. leb s i ≡ false) (all_starts text) k → k ≡ count_by is_line_feed (take i text)
part_is_count text i k within bound parts =
    let n = count_by is_line_feed (take i text) in
    elim (cases_lt k n) [
      | inl below ↦
          let some : k < length (all_starts text) = omega (arith, starts_count text i within, all_starts-length text i within) in
          let low = starts_up_to text i k 0 within below in
          let no = parts.1 k 0 (omega arith) some in
          absurd (let yes = le-leb (get_or (all_starts text) k 0) i low in cc)
      | inr above ↦
          elim (cases_lt n k) [
            | inl past ↦
                let low : get_or (all_starts text) n 0 ≤ i = leb-true (get_or (all_starts text) n 0) i (parts.0 n 0 (omega arith) past) in
                let high = starts_past text i n 0 within (omega arith) (omega arith) in
                absurd (omega arith)
            | inr same ↦ omega arith
          ]
    ]

-- the start of the line of byte i, by the number of line feeds before it
pub start_found : (text : List ℕ) (i k d : ℕ) → i ≤ length text → k ≡ count_by is_line_feed (take i text) → 0 < k → get_or (all_starts text) (k - 1) d ≡ line_start text i
start_found text i k d within is some =
    let front = starts_among text 1 i in
    let count = starts_count text i within in
    let place : k - 1 ≡ length front - 1 = omega (arith, count) in
    ap (λ s. get_or s (k - 1) d) (all_starts-cut text i within)
    ∙ get_or_append_left front (starts_among text (1 + i) (length text - i)) d (k - 1) (omega (arith, count))
    ∙ ap (λ n. get_or front n d) place ∙ (starts_front text i within).last d (omega (arith, count))

-- if there is no line feed before it, it is byte 0
pub start_first : (text : List ℕ) (i : ℕ) → i ≤ length text → 0 ≡ count_by is_line_feed (take i text) → 0 ≡ line_start text i
start_first text i within is = sym ((starts_front text i within).first (starts_count text i within ∙ sym is))

-- the end of the line of byte i is before the next start
pub end_found : (text : List ℕ) (i k d : ℕ) → i ≤ length text → k ≡ count_by is_line_feed (take i text) → k < length (all_starts text)
    → get_or (all_starts text) k d ≡ line_end text i + 1
end_found text i k d within is some =
    let front = starts_among text 1 i in
    let rest = starts_among text (1 + i) (length text - i) in
    let count = starts_count text i within in
    let cut = all_starts-cut text i within in
    let lengths : length (all_starts text) ≡ length front + length rest = ap length cut ∙ length-append front rest in
    let from : 1 + i ≡ i + 1 = omega arith in
    let first : k - length front ≡ 0 = omega (arith, count) in
    let next = subst (λ a. IsRest text (starts_among text a (length text - i)) i) (sym from) (starts_rest text i (length text - i) (omega arith)) in
    ap (λ s. get_or s k d) cut ∙ get_or-append_right front rest (length front) k d refl (omega (arith, count))
    ∙ ap (λ n. get_or rest n d) first ∙ next.next d (omega (arith, count, lengths))

-- if there is no start past it, it is the end of the text
pub end_last : (text : List ℕ) (i k : ℕ) → i ≤ length text → k ≡ count_by is_line_feed (take i text) → length (all_starts text) ≤ k → length text ≡ line_end text i
end_last text i k within is none =
    let front = starts_among text 1 i in
    let rest = starts_among text (1 + i) (length text - i) in
    let count = starts_count text i within in
    let lengths : length (all_starts text) ≡ length front + length rest = ap length (all_starts-cut text i within) ∙ length-append front rest in
    let from : 1 + i ≡ i + 1 = omega arith in
    let last = subst (λ a. IsRest text (starts_among text a (length text - i)) i) (sym from) (starts_rest text i (length text - i) (omega arith)) in
    sym (last.last (omega (arith, count, lengths)))

-- a line starts between two characters
pub line_start_boundary : (text : List ℕ) (i : ℕ) → i ≤ length text → IsUtf8 text → IsCharBoundary text (line_start text i)
line_start_boundary text zero within utf8 = IsCharBoundary-start text utf8
line_start_boundary text (suc i) within utf8 =
    let next : suc i ≡ i + 1 = omega arith in
    subst (λ n. IsCharBoundary text (line_start text n)) (sym next)
    (elim (cases_eq (slice_index text i) 10) [
      | inl feed ↦ subst (IsCharBoundary text) (sym (line_start_here text i (omega arith) feed))
          (IsCharBoundary-after_ascii text i utf8 (omega arith) (omega (arith, feed)))
      | inr other ↦ subst (IsCharBoundary text) (sym (line_start_back text i (omega arith) other)) (line_start_boundary text i (omega arith) utf8)
    ])

-- and ends between two
pub line_end_boundary : (text : List ℕ) (i n : ℕ) → i + n ≡ length text → IsCharBoundary text (line_end text i)
line_end_boundary text i zero whole =
    let ends : line_end text i ≡ length text = line_end_last text i (omega arith) ∙ omega arith in
    (omega arith, λ inside. absurd (omega arith))
line_end_boundary text i (suc n) whole =
    elim (cases_eq (slice_index text i) 10) [
      | inl feed ↦
          let ends = line_end_here text i (omega arith) feed in
          subst (IsCharBoundary text) (sym ends) (omega arith, λ inside high. absurd (omega (arith, feed)))
      | inr other ↦ subst (IsCharBoundary text) (line_end_on text i (omega arith) other) (line_end_boundary text (i + 1) n (omega arith))
    ]
