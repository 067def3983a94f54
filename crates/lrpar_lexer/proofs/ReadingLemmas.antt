-- What a line has before its gap and before its ending: one pattern, one name.
use Rattle.std.proofs.Common.{◌≡◌, ◌≢◌, ◌⊎◌, ◌==◌, ℕ, ◌+◌, ◌-◌, ◌<◌, ◌≤◌, suc, true, List, [], ◌∷◌, ◌++◌, length, take, drop, get_or, Option, Some, None, MatchOption, Bor, inl, inr, sym, subst, ◌∙◌, ap, ap₂, refl, arith, append_assoc, length-append, length-take-le, length-drop, take-append-drop, take_at, drop_at}
use Rattle.std.specs.List.{All, suffix_len}
use Rattle.std.specs.Str.{NoCharPasses}
use Rattle.std.specs.Str.Pattern.{RFindsChar, SplitsAroundMatch}
use Rattle.std.proofs.lemmas.Bool.{cases_order}
use Rattle.std.proofs.lemmas.List.{get_or-append_right, get_or_append_left, get_or_at, get_or_push, get_or-drop, length_push, same_from_push, take_more}
use Rattle.std.proofs.lemmas.List.Elements.{All-from_get_or}
use Rattle.std.proofs.lemmas.List.Sums.{suffix_len_is}
use Rattle.std.proofs.lemmas.Str.Pattern.{NoCharPasses-char, drop_at_char}
use Rattle.lrpar_lexer.specs.RuleLines.{HasEnding, HasGap, ReadsAs, is_blank, quote, semicolon, without_end}
use Rattle.lrpar_lexer.specs.RuleLineLaws.{LinesReadOneWay}
use Rattle.lrpar_lexer.proofs.TrimLemmas.{EndCut, StopsAt, cut_is_all}

-- what is cut off the end of a text is a gap, if it is some of the text but not all
pub gap_of_cut : (text pattern : List ℕ) (cut : EndCut is_blank text pattern) → StopsAt is_blank text cut.kept → 0 < length pattern
    → length pattern < length text → HasGap text pattern
gap_of_cut text pattern cut stops some less =
    let n : ℕ = cut.kept in
    let len : length pattern ≡ n = ap length cut.is ∙ length-take-le n text cut.within in
    let back : (n - 1) + 1 ≡ n = omega arith in
    record {
      gap = drop n text;
      is = sym (take-append-drop n text) ∙ ap (λ front. front ++ drop n text) (sym cut.is);
      some = omega (arith, length-drop n text);
      blank = All-from_get_or (λ byte. is_blank byte ≡ true) (drop n text) 0
          (λ i within. ap is_blank (get_or-drop n text i 0) ∙ cut.passes (n + i) (omega arith) (omega (arith, length-drop n text)));
      front = take (n - 1) text;
      last = get_or text (n - 1) 0;
      ends = cut.is ∙ ap (λ i. take i text) (sym back) ∙ take_more text (n - 1) 0 (omega arith);
      solid = stops (omega arith);
    }

-- a pattern isn't empty, and isn't all of the text
pub gap_lengths : (text pattern : List ℕ) → HasGap text pattern → (0 < length pattern) × (length pattern < length text)
gap_lengths text pattern has = (
  omega (arith, ap length has.ends, length_push has.front has.last),
  omega (arith, ap length has.is, length-append pattern has.gap, has.some),
)

-- a pattern is what remains of the text without the longest end of blanks
pub gap_is_end : (text pattern : List ℕ) → HasGap text pattern → pattern ≡ without_end is_blank text
gap_is_end text pattern has =
    let n : ℕ = length pattern in
    let lengths : length text ≡ n + length has.gap = ap length has.is ∙ length-append pattern has.gap in
    let within : n ≤ length text = omega arith in
    let blank : (k : ℕ) → n ≤ k → k < length text → is_blank (get_or text k 0) ≡ true =
    λ (k : ℕ) (from : n ≤ k) (below : k < length text).
    ap (λ l. is_blank (get_or l k 0)) has.is ∙ ap is_blank (get_or-append_right pattern has.gap n k 0 refl from)
    ∙ has.blank (k - n) 0 (omega arith) in
    let ends : n ≡ length has.front + 1 = ap length has.ends ∙ length_push has.front has.last in
    let last : get_or text (n - 1) 0 ≡ has.last =
    ap (λ l. get_or l (n - 1) 0) has.is ∙ get_or_append_left pattern has.gap 0 (n - 1) (omega arith)
    ∙ ap (λ l. get_or l (n - 1) 0) has.ends ∙ get_or_push has.front has.last 0 (n - 1) (omega arith) in
    let len : suffix_len is_blank text ≡ length text - n =
    suffix_len_is is_blank text n 0 within blank (λ some. ap is_blank last ∙ has.solid) in
    let kept : length text - suffix_len is_blank text ≡ n = omega arith in
    sym (take_at pattern has.gap n refl) ∙ ap (take n) (sym has.is) ∙ ap (λ i. take i text) (sym kept)

-- if all of the text is cut off, or nothing, it has no gap
pub no_gap : (text rest : List ℕ) (cut : EndCut is_blank text rest) → StopsAt is_blank text cut.kept
    → (length rest ≡ 0) ⊎ (length rest ≡ length text) → (pattern : List ℕ) → HasGap text pattern → ⊥
no_gap text rest cut stops lengths pattern has =
    let same : pattern ≡ rest = gap_is_end text pattern has ∙ sym (cut_is_all is_blank text rest cut stops) in
    let len : length pattern ≡ length rest = ap length same in
    let some : 0 < length pattern = (gap_lengths text pattern has).0 in
    let less : length pattern < length text = (gap_lengths text pattern has).1 in
    elim lengths [
      | inl none ↦ absurd (omega arith)
      | inr all ↦ absurd (omega arith)
    ]

-- what follows the last place of a byte begins no earlier than what follows another place of it
not_later : (byte : ℕ) (f n g m : List ℕ) → f ++ byte ∷ n ≡ g ++ byte ∷ m → All (λ b. b ≢ byte) n → length f < length g → ⊥
not_later byte f n g m same none before =
    let lengths : length f + suc (length n) ≡ length g + suc (length m) =
    sym (length-append f (byte ∷ n)) ∙ ap length same ∙ length-append g (byte ∷ m) in
    let here : get_or (f ++ byte ∷ n) (length g) 0 ≡ byte =
    ap (λ l. get_or l (length g) 0) same ∙ get_or_at g byte m 0 (length g) refl in
    let there : get_or (f ++ byte ∷ n) (length g) 0 ≡ get_or n (length g - (length f + 1)) 0 =
    ap (λ l. get_or l (length g) 0) (sym (append_assoc f (byte ∷ []) n))
    ∙ get_or-append_right (f ++ byte ∷ []) n (length f + 1) (length g) 0 (length_push f byte) (omega arith) in
    none (length g - (length f + 1)) 0 (omega arith) (sym there ∙ here)

-- a text is split at the last place of a byte in only one way
pub one_last : (byte : ℕ) (f n g m : List ℕ) → f ++ byte ∷ n ≡ g ++ byte ∷ m → All (λ b. b ≢ byte) n → All (λ b. b ≢ byte) m
    → (f ≡ g) × (n ≡ m)
one_last byte f n g m same none other = elim (cases_order (length f) (length g)) [
  | inl len ↦
      let fronts : f ≡ g =
      sym (take_at f (byte ∷ n) (length f) refl) ∙ ap (take (length f)) same ∙ take_at g (byte ∷ m) (length f) (sym len) in
      let rests : byte ∷ n ≡ byte ∷ m =
      sym (drop_at f (byte ∷ n) (length f) refl) ∙ ap (drop (length f)) same ∙ drop_at g (byte ∷ m) (length f) (sym len) in
      (fronts, cc)
  | inr apart ↦ elim apart [
    | inl before ↦ absurd (not_later byte f n g m same none before)
    | inr after ↦ absurd (not_later byte g m f n (sym same) other after)
  ]
]

-- a line with a name ends in a quote
pub named_ends : (line front name : List ℕ) → HasEnding line front (Some name) → line ≡ (front ++ quote ∷ name) ++ quote ∷ []
named_ends line front name ending = ending.is ∙ sym (append_assoc front (quote ∷ name) (quote ∷ []))

-- a line has one ending
pub one_ending : (line f g : List ℕ) (n m : Option (List ℕ)) → HasEnding line f n → HasEnding line g m → (f ≡ g) × (n ≡ m)
one_ending line f g None None one other = ((same_from_push f g semicolon semicolon (sym one.is ∙ other.is)).0, refl)
one_ending line f g None (Some m) one other =
    let same : semicolon ≡ quote = (same_from_push f (g ++ quote ∷ m) semicolon quote (sym one.is ∙ named_ends line g m other)).1 in
    absurd (omega arith)
one_ending line f g (Some n) None one other =
    let same : quote ≡ semicolon = (same_from_push (f ++ quote ∷ n) g quote semicolon (sym (named_ends line f n one) ∙ other.is)).1 in
    absurd (omega arith)
one_ending line f g (Some n) (Some m) one other =
    let fronts : f ++ quote ∷ n ≡ g ++ quote ∷ m =
    (same_from_push (f ++ quote ∷ n) (g ++ quote ∷ m) quote quote (sym (named_ends line f n one) ∙ named_ends line g m other)).0 in
    let same = one_last quote f n g m fronts one.unquoted other.unquoted in
    (same.0, ap Some same.1)

-- `rsplit_once` at an ASCII character
pub split_at_last : (c : ℕ) (text : List ℕ) (parts : Option (Bor (List ℕ) × Bor (List ℕ))) → c < 128
    → MatchOption parts (RFindsChar c text None) (λ x. SplitsAroundMatch (RFindsChar c) text x.0.now x.1.now)
    → MatchOption parts (All (λ b. b ≢ c) text) (λ x. (text ≡ x.0.now ++ c ∷ x.1.now) × All (λ b. b ≢ c) x.1.now)
split_at_last c text None low none =
    All-from_get_or (λ b. b ≢ c) text 0 (λ i within. NoCharPasses-char c text i none low within)
split_at_last c text (Some x) low (i, j, found, front, back, _, _, _) = (
  sym (take-append-drop i text)
      ∙ ap₂ (λ f b. f ++ b) (sym front) (drop_at_char c text i j found.1 low ∙ ap (λ b. c ∷ b) (sym back)),
  All-from_get_or (λ b. b ≢ c) x.1.now 0
      (λ k within. NoCharPasses-char c x.1.now k (subst (λ b. NoCharPasses (λ d. d == c) b) (sym back) found.0) low within),
)

-- a line that ends in a quote, and has no other, has no ending
pub no_name : (line quoted : List ℕ) → line ≡ quoted ++ quote ∷ [] → All (λ b. b ≢ quote) quoted
    → (front : List ℕ) (name : Option (List ℕ)) → HasEnding line front name → ⊥
no_name line quoted is none front None ending =
    let same : quote ≡ semicolon = (same_from_push quoted front quote semicolon (sym is ∙ ending.is)).1 in
    absurd (omega arith)
no_name line quoted is none front (Some name) ending =
    let same : quoted ≡ front ++ quote ∷ name =
    (same_from_push quoted (front ++ quote ∷ name) quote quote (sym is ∙ named_ends line front name ending)).0 in
    let len : length quoted ≡ length front + suc (length name) = ap length same ∙ length-append front (quote ∷ name) in
    none (length front) 0 (omega arith) (ap (λ l. get_or l (length front) 0) same ∙ get_or_at front quote name 0 (length front) refl)

-- a line that ends in no quote and no semicolon has no ending
pub no_ending : (line : List ℕ) → ((front : List ℕ) → line ≢ front ++ quote ∷ []) → ((front : List ℕ) → line ≢ front ++ semicolon ∷ [])
    → (front : List ℕ) (name : Option (List ℕ)) → HasEnding line front name → ⊥
no_ending line unquoted unclosed front None ending = unclosed front ending.is
no_ending line unquoted unclosed front (Some name) ending = unquoted (front ++ quote ∷ name) (named_ends line front name ending)

-- a name between quotes is an ending
pub has_name : (line quoted front name : List ℕ) → line ≡ quoted ++ quote ∷ []
    → (quoted ≡ front ++ quote ∷ name) × All (λ b. b ≢ quote) name → HasEnding line front (Some name)
has_name line quoted front name is (inner, unquoted) = record {
  is = is ∙ ap (λ l. l ++ quote ∷ []) inner ∙ append_assoc front (quote ∷ name) (quote ∷ []);
  unquoted = unquoted;
}

-- if the text before the one ending of a line has no gap, the line doesn't read as a rule
pub no_pattern : (line front : List ℕ) (name : Option (List ℕ)) → HasEnding line front name → ((pattern : List ℕ) → ¬ (HasGap front pattern))
    → (pattern : List ℕ) (other : Option (List ℕ)) → ReadsAs line pattern other → ⊥
no_pattern line front name ending none pattern other reads =
    none pattern (subst (λ f. HasGap f pattern) (one_ending line reads.front front other name reads.ending ending).0 reads.gap)

-- a line reads in one way
pub reads_one_way : LinesReadOneWay
reads_one_way line a b name other one two =
    let same = one_ending line one.front two.front name other one.ending two.ending in (
      gap_is_end one.front a one.gap ∙ ap (without_end is_blank) same.0 ∙ sym (gap_is_end two.front b two.gap),
      same.1,
    )
