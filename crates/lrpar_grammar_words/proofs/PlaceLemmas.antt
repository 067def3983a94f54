-- Where the words of a text lie: each begins and ends between two characters, and is on one line.
use Rattle.std.proofs.Common.{◌≡◌, ◌≢◌, ◌<◌, ◌≤◌, ◌+◌, ◌-◌, ◌*◌, ◌==◌, ◌&&◌, ◌||◌, not, eqb, ltb, ℕ, Bool, true, cond, List, [], ◌∷◌, length, length-drop, length-take, drop, take, get_or, Option, Some, None, option_map, option_and_then, refl, ap, sym, subst, ◌∙◌, inl, inr, nat_eq, codes, zero, suc, arith}
use Rattle.std.specs.List.{All, slice_get, starts_with, prefix_len, position_or_len, slice_range}
use Rattle.std.specs.Option.{option_to_list}
use Rattle.std.specs.Str.{IsCharBoundary, IsUtf8}
use Rattle.std.proofs.lemmas.Bool.{and_parts, cond_both, eqb-false, eqb-true, ltb-true, not-true, or_cases, or_left, or_parts}
use Rattle.std.proofs.lemmas.Bool.Decides.{nat_tests}
use Rattle.std.proofs.lemmas.List.{drop-drop, get_or-drop, get_or-take, get_or_default}
use Rattle.std.proofs.lemmas.List.Elements.{All-append, All-cons, All-head, All-nil, All-push, All-tail}
use Rattle.std.proofs.lemmas.List.Sums.{fails_before_first, prefix_len-le-length, prefix_len_passes}
use Rattle.std.proofs.lemmas.Option.{same_Some}
use Rattle.std.proofs.lemmas.Slice.Eq.{bytes_eq-Decides}
use Rattle.lrpar_grammar_words.specs.declared.words.Piece.{Piece}
use Rattle.lrpar_grammar_words.specs.declared.words.WordKind.{WordKind}
use Rattle.lrpar_grammar_words.specs.declared.words.WordKind.TheVariants.{Name, Quoted, StartSign, TokenSign, EppSign, RulesSign, Colon, Bar, Semicolon}
use Rattle.lrpar_grammar_places.specs.Span.{Extent}
use Rattle.lrpar_grammar_words.specs.Words.{IsCutInto, IsWordPiece, PlacedWord, ReadsAs, begins_name, blank_piece, closed_len, comment_after, is_byte_at, is_in_name, is_white, name_after, piece_at, piece_from, quote_len, quoted_after, sign_after, word_at, word_piece, words_of}
use Rattle.lrpar_grammar_words.specs.declared.word_order.Expected.{Expected}
use Rattle.lrpar_grammar_words.specs.declared.word_order.Expected.TheVariants.{Declaration}
use Rattle.lrpar_grammar_words.specs.declared.word_order.Role.{Role}
use Rattle.lrpar_grammar_words.specs.declared.word_order.Role.TheVariants.{Sign, Start, Declared, EppOf, Epp, Defined, Symbol, AlternativeEnd}
use Rattle.lrpar_grammar_words.specs.WordOrder.{after}
use Rattle.lrpar_grammar_words.specs.Outline.{IsOutlineOf, TextAlternative, TextOutline, after_words, ended, no_words, with_word}
use Rattle.lrpar_grammar_words.proofs.WordsLemmas.{ends_char, starts_char}

-- the word of that kind and length with which s begins lies in s, on one line
pub record IsLinePiece (s : List ℕ) (len : ℕ) (kind : WordKind) : Type 0 where
  pub some : 0 < len
  pub most : len ≤ length s
  pub word : IsWordPiece s len kind
  pub line : (k : ℕ) → quote_len kind ≤ k → k < len - quote_len kind → get_or s k 0 ≢ 10

-- ASCII, and no line feed
abbrev pub is_plain : ℕ → Bool
is_plain c = ltb c 128 && not (eqb c 10)

-- the two parts of `is_plain`
plain_parts : (c : ℕ) → is_plain c ≡ true → (c < 128) × (c ≢ 10)
plain_parts c plain =
    let parts = and_parts (ltb c 128) (not (eqb c 10)) plain in
    (ltb-true c 128 parts.0, eqb-false c 10 (not-true (eqb c 10) parts.1))

-- the bytes of a name are plain
name_plain : (c : ℕ) → is_in_name c ≡ true → is_plain c ≡ true
name_plain c in_name = grind (arith, nat_tests)

-- a word without quotes that has only plain bytes
plain_word : (s : List ℕ) (len : ℕ) (kind : WordKind) → quote_len kind ≡ 0 → 0 < len → len ≤ length s
    → ((k : ℕ) → k < len → is_plain (get_or s k 0) ≡ true) → IsLinePiece s len kind
plain_word s len kind unquoted some most plain =
    record {
      some = some;
      most = most;
      word = record {
        room = omega arith;
        first = (plain_parts (get_or s 0 0) (plain 0 some)).0;
        last = (plain_parts (get_or s (len - 1) 0) (plain (len - 1) (omega arith))).0;
      };
      line = λ k from to. (plain_parts (get_or s k 0) (plain k (omega arith))).1;
    }

-- such a word: a plain first byte, and n plain bytes after it
plain_after : (c : ℕ) (s : List ℕ) (n : ℕ) (kind : WordKind) → quote_len kind ≡ 0 → n ≤ length s → is_plain c ≡ true
    → ((k : ℕ) → k < n → is_plain (get_or s k 0) ≡ true) → IsLinePiece (c ∷ s) (1 + n) kind
plain_after c s n kind unquoted most first rest =
    let all : (k : ℕ) → k < 1 + n → is_plain (get_or (c ∷ s) k 0) ≡ true = plain_bytes c s n first rest in
    plain_word (c ∷ s) (1 + n) kind unquoted (omega arith) (omega arith) all
  where
    plain_bytes : (c : ℕ) (s : List ℕ) (n : ℕ) → is_plain c ≡ true → ((k : ℕ) → k < n → is_plain (get_or s k 0) ≡ true)
        → (k : ℕ) → k < 1 + n → is_plain (get_or (c ∷ s) k 0) ≡ true
    plain_bytes c s n first rest zero within = first
    plain_bytes c s n first rest (suc k) within = rest k (omega arith)

-- a sign: its first byte, and the bytes that must follow it
sign_lies : (c : ℕ) (s p : List ℕ) (kind : WordKind) → quote_len kind ≡ 0 → is_plain c ≡ true → starts_with nat_eq s p ≡ true
    → prefix_len is_plain p ≡ length p → IsLinePiece (c ∷ s) (1 + length p) kind
sign_lies c s p kind unquoted first starts plain =
    let same : p ≡ take (length p) s = (bytes_eq-Decides p (take (length p) s)).0 starts in
    let most : length p ≤ length s = omega (arith, ap length same, length-take (length p) s) in
    plain_after c s (length p) kind unquoted most first (λ k within.
    let byte : get_or p k 0 ≡ get_or s k 0 = ap (λ l. get_or l k 0) same ∙ get_or-take (length p) s k 0 within in
    subst (λ b. is_plain b ≡ true) byte (prefix_len_passes is_plain p k 0 (omega arith)))

-- a word in quotes, with no quote and no line feed in it
quoted_lies : (quote : ℕ) (s : List ℕ) (n : ℕ) → quote < 128 → 0 < n → n < length s → get_or s n 0 ≡ quote
    → ((k : ℕ) → k < n → get_or s k 0 ≢ 10) → IsLinePiece (quote ∷ s) (n + 2) Quoted
quoted_lies quote s n ascii some within ends line =
    record {
      some = omega arith;
      most = omega arith;
      word = record { room = omega arith; first = ascii; last = last };
      line = inside s n line;
    }
  where
    last : get_or (quote ∷ s) ((n + 2) - 1) 0 < 128
    last = let place : (n + 2) - 1 ≡ suc n = omega arith in
        let same : get_or (quote ∷ s) ((n + 2) - 1) 0 ≡ get_or s n 0 = ap (λ k. get_or (quote ∷ s) k 0) place in
        omega arith

    inside : (s : List ℕ) (n : ℕ) → ((k : ℕ) → k < n → get_or s k 0 ≢ 10) → (k : ℕ) → 1 ≤ k → k < (n + 2) - 1 → get_or (quote ∷ s) k 0 ≢ 10
    inside s n line zero from to = absurd (omega arith)
    inside s n line (suc k) from to = line k (omega arith)

-- if s begins with a word, the word lies in s, on one line
abbrev pub BeginsOnLine : List ℕ → Option Piece → Type 0
BeginsOnLine s r = (kind : WordKind) (len : ℕ) → r ≡ Some (word_piece kind len) → IsLinePiece s len kind

-- no piece is no word
none_begins : (s : List ℕ) → BeginsOnLine s None
none_begins s kind len is = absurd (cc)

-- blanks are no word
blank_begins : (s : List ℕ) (n : ℕ) → BeginsOnLine s (Some (blank_piece n))
blank_begins s n kind len is =
    let same : blank_piece n ≡ word_piece kind len = same_Some (blank_piece n) (word_piece kind len) is in
    let word : ◌≡◌ {A = Option WordKind} None (Some kind) = ap (λ (x : Piece). x.word) same in
    absurd (cc)

-- a word
word_begins : (s : List ℕ) (n : ℕ) (k : WordKind) → IsLinePiece s n k → BeginsOnLine s (Some (word_piece k n))
word_begins s n k lies kind len is =
    let same : word_piece k n ≡ word_piece kind len = same_Some (word_piece k n) (word_piece kind len) is in
    let word : k ≡ kind = same_Some k kind (ap (λ (x : Piece). x.word) same) in
    subst (λ m. IsLinePiece s m kind) (ap (λ (x : Piece). x.len) same) (subst (IsLinePiece s n) word lies)

-- a comment, whether it is closed or not
closed_begins : (s : List ℕ) (found : Option ℕ) → BeginsOnLine s (option_map (λ n. blank_piece (2 + n)) found)
closed_begins s None = none_begins s
closed_begins s (Some n) = blank_begins s (2 + n)

-- a comment is no word
comment_begins : (c : ℕ) (s : List ℕ) → BeginsOnLine (c ∷ s) (comment_after s)
unfolding comment_after
comment_begins c [] = none_begins (c ∷ [])
comment_begins c (d ∷ s) =
    let line = position_or_len (λ x. x == 10) s in
    let closed = option_map (λ n. blank_piece (2 + n)) (closed_len s) in
    cond_both (d == 47) (Some (blank_piece (2 + line))) (cond (d == 42) closed None) (BeginsOnLine (c ∷ d ∷ s))
    (λ _. blank_begins (c ∷ d ∷ s) (2 + line))
    (λ _. cond_both (d == 42) closed None (BeginsOnLine (c ∷ d ∷ s)) (λ _. closed_begins (c ∷ d ∷ s) (closed_len s)) (λ _. none_begins (c ∷ d ∷ s)))

-- a word in quotes
quoted_begins : (quote : ℕ) (s : List ℕ) → quote < 128 → BeginsOnLine (quote ∷ s) (quoted_after quote s)
unfolding quoted_after
quoted_begins quote s ascii =
    let stops : ℕ → Bool = λ c. (c == quote) || (c == 10) in
    let n = position_or_len stops s in
    cond_both (ltb 0 n && is_byte_at s n quote) (Some (word_piece Quoted (n + 2))) None (BeginsOnLine (quote ∷ s))
    (λ passes.
    let parts = and_parts (ltb 0 n) (is_byte_at s n quote) passes in
    let at = and_parts (ltb n (length s)) (get_or s n 0 == quote) parts.1 in
    word_begins (quote ∷ s) (n + 2) Quoted (quoted_lies quote s n ascii (ltb-true 0 n parts.0) (ltb-true n (length s) at.0) (eqb-true (get_or s n 0) quote at.1)
    (λ k within.
    let fails = or_parts (get_or s k 0 == quote) (get_or s k 0 == 10) (fails_before_first stops s k 0 within) in
    eqb-false (get_or s k 0) 10 fails.1)))
    (λ _. none_begins (quote ∷ s))

-- a sign
sign_begins : (s : List ℕ) → BeginsOnLine (37 ∷ s) (sign_after s)
unfolding sign_after
sign_begins s =
    let P = BeginsOnLine (37 ∷ s) in
    let rules = cond (starts_with nat_eq s (codes "%")) (Some (word_piece RulesSign 2)) None in
    let epp = cond (starts_with nat_eq s (codes "epp")) (Some (word_piece EppSign 4)) rules in
    let token = cond (starts_with nat_eq s (codes "token")) (Some (word_piece TokenSign 6)) epp in
    cond_both (starts_with nat_eq s (codes "start")) (Some (word_piece StartSign 6)) token P
    (λ is. word_begins (37 ∷ s) 6 StartSign (sign_lies 37 s (codes "start") StartSign refl refl is refl))
    (λ _. cond_both (starts_with nat_eq s (codes "token")) (Some (word_piece TokenSign 6)) epp P
    (λ is. word_begins (37 ∷ s) 6 TokenSign (sign_lies 37 s (codes "token") TokenSign refl refl is refl))
    (λ _. cond_both (starts_with nat_eq s (codes "epp")) (Some (word_piece EppSign 4)) rules P
    (λ is. word_begins (37 ∷ s) 4 EppSign (sign_lies 37 s (codes "epp") EppSign refl refl is refl))
    (λ _. cond_both (starts_with nat_eq s (codes "%")) (Some (word_piece RulesSign 2)) None P
    (λ is. word_begins (37 ∷ s) 2 RulesSign (sign_lies 37 s (codes "%") RulesSign refl refl is refl))
    (λ _. none_begins (37 ∷ s)))))

-- a name
name_begins : (c : ℕ) (s : List ℕ) → BeginsOnLine (c ∷ s) (name_after c s)
unfolding name_after
name_begins c s =
    let n = prefix_len is_in_name s in
    cond_both (begins_name c) (Some (word_piece Name (1 + n))) None (BeginsOnLine (c ∷ s))
    (λ begins. word_begins (c ∷ s) (1 + n) Name (plain_after c s n Name refl (prefix_len-le-length is_in_name s)
    (name_plain c (or_left (begins_name c) _ begins)) (λ k within. name_plain (get_or s k 0) (prefix_len_passes is_in_name s k 0 within))))
    (λ _. none_begins (c ∷ s))

-- a sign of one byte
byte_begins : (c : ℕ) (s : List ℕ) (kind : WordKind) → quote_len kind ≡ 0 → is_plain c ≡ true → BeginsOnLine (c ∷ s) (Some (word_piece kind 1))
byte_begins c s kind unquoted plain = word_begins (c ∷ s) 1 kind (plain_after c s 0 kind unquoted (omega arith) plain (λ k within. absurd (omega arith)))

-- the word with which s begins lies in s, on one line
piece_begins : (c : ℕ) (s : List ℕ) → BeginsOnLine (c ∷ s) (piece_from c s)
unfolding piece_from
piece_begins c s =
    let P = BeginsOnLine (c ∷ s) in
    let semicolon = cond (c == 59) (Some (word_piece Semicolon 1)) (name_after c s) in
    let bar = cond (c == 124) (Some (word_piece Bar 1)) semicolon in
    let colon = cond (c == 58) (Some (word_piece Colon 1)) bar in
    let sign = cond (c == 37) (sign_after s) colon in
    let quoted = cond ((c == 39) || (c == 34)) (quoted_after c s) sign in
    let comment = cond (c == 47) (comment_after s) quoted in
    cond_both (is_white c) (Some (blank_piece 1)) comment P (λ _. blank_begins (c ∷ s) 1)
    (λ _. cond_both (c == 47) (comment_after s) quoted P (λ _. comment_begins c s)
    (λ _. cond_both ((c == 39) || (c == 34)) (quoted_after c s) sign P (λ is. quoted_begins c s (quote_ascii c is))
    (λ _. cond_both (c == 37) (sign_after s) colon P
    (λ is. subst (λ b. BeginsOnLine (b ∷ s) (sign_after s)) (sym (eqb-true c 37 is)) (sign_begins s))
    (λ _. cond_both (c == 58) (Some (word_piece Colon 1)) bar P
    (λ is. byte_begins c s Colon refl (ap is_plain (eqb-true c 58 is)))
    (λ _. cond_both (c == 124) (Some (word_piece Bar 1)) semicolon P
    (λ is. byte_begins c s Bar refl (ap is_plain (eqb-true c 124 is)))
    (λ _. cond_both (c == 59) (Some (word_piece Semicolon 1)) (name_after c s) P
    (λ is. byte_begins c s Semicolon refl (ap is_plain (eqb-true c 59 is)))
    (λ _. name_begins c s)))))))
  where
    quote_ascii : (c : ℕ) → ((c == 39) || (c == 34)) ≡ true → c < 128
    quote_ascii c is = elim (or_cases (c == 39) (c == 34) is) [
      | inl one ↦ let same = eqb-true c 39 one in omega arith
      | inr other ↦ let same = eqb-true c 34 other in omega arith
    ]

-- the same for a list that may be empty
pub begins_on_line : (s : List ℕ) → BeginsOnLine s (piece_at s)
begins_on_line [] = none_begins []
begins_on_line (c ∷ s) = piece_begins c s

-- a part of a text between two characters, with no line feed in it
pub record LiesInLine (text : List ℕ) (span : Extent) : Type 0 where
  pub start : IsCharBoundary text span.start
  pub end : IsCharBoundary text span.end
  pub line : All (λ byte. byte ≢ 10) (slice_range text span.start span.end)

-- at most one quote is at each end
quote_few : (kind : WordKind) → quote_len kind ≤ 1
quote_few Quoted = omega arith
quote_few _ = omega arith

-- such a word of the rest of a text lies in the whole text
word_lies : (text : List ℕ) (place len : ℕ) (kind : WordKind) → IsUtf8 text → IsLinePiece (drop place text) len kind
    → LiesInLine text (word_at place (drop place text) kind len).span
word_lies text place len kind utf8 lies =
    let quote = quote_len kind in
    let few : quote ≤ 1 = quote_few kind in
    let room : 2 * quote ≤ len = lies.word.room in
    let within : place + len ≤ length text = omega (arith, lies.some, lies.most, length-drop place text) in
    let b = place + quote in
    let e = place + (len - quote) in
    record {
      start = starts_char text place len quote utf8 within lies.some few lies.word.first;
      end = ends_char text place len quote utf8 within lies.some few lies.word.last;
      line = λ k d inside.
          let below : k < e - b = omega (arith, length-take (e - b) (drop b text)) in
          let at : get_or (take (e - b) (drop b text)) k d ≡ get_or text (b + k) d = get_or-take (e - b) (drop b text) k d below ∙ get_or-drop b text k d in
          let same : get_or text (b + k) d ≡ get_or text (b + k) 0 = get_or_default text (b + k) d 0 (omega arith) in
          let place' : place + (quote + k) ≡ b + k = omega arith in
          let piece : get_or (drop place text) (quote + k) 0 ≡ get_or text (b + k) 0 = get_or-drop place text (quote + k) 0 ∙ ap (λ j. get_or text j 0) place' in
          subst (λ x. x ≢ 10) (piece ∙ sym same ∙ sym at) (lies.line (quote + k) (omega arith) (omega arith));
    }

-- what holds of the word, if there is one
option_all : {X Y : Type 0} (P : Y → Type 0) (f : X → Y) (r : Option X) → ((x : X) → r ≡ Some x → P (f x)) → All P (option_to_list (option_map f r))
option_all P f None holds = All-nil P
option_all P f (Some x) holds = All-cons P (f x) [] (holds x refl) (All-nil P)

-- the words among the pieces of the rest of a text
words_lie : (text : List ℕ) (place : ℕ) (xs : List Piece) → IsUtf8 text → IsCutInto (drop place text) xs
    → All (λ (w : PlacedWord). LiesInLine text w.span) (words_of place (drop place text) xs)
words_lie text place [] utf8 cut = All-nil (λ (w : PlacedWord). LiesInLine text w.span)
words_lie text place (x ∷ xs) utf8 cut =
    let P : PlacedWord → Type 0 = λ w. LiesInLine text w.span in
    let s = drop place text in
    let rest : drop x.len s ≡ drop (place + x.len) text = drop-drop x.len place text in
    let first : All P (option_to_list (option_map (λ kind. word_at place s kind x.len) x.word)) =
    option_all P (λ kind. word_at place s kind x.len) x.word (λ kind word.
    let piece : x ≡ word_piece kind x.len = ap (λ (r : Option WordKind). record { word = r; len = x.len }) word in
    word_lies text place x.len kind utf8 (begins_on_line s kind x.len (cut.0 ∙ ap (λ (y : Piece). Some y) piece))) in
    let after : All P (words_of (place + x.len) (drop x.len s) xs) =
    subst (λ r. All P (words_of (place + x.len) r xs)) (sym rest) (words_lie text (place + x.len) xs utf8 (subst (λ r. IsCutInto r xs) rest cut.1)) in
    All-append P (option_to_list (option_map (λ kind. word_at place s kind x.len) x.word)) (words_of (place + x.len) (drop x.len s) xs) first after

-- the words that a text reads as lie in it, each on one line
pub reads_in_line : (text : List ℕ) (words : List PlacedWord) → IsUtf8 text → ReadsAs text words → All (λ (w : PlacedWord). LiesInLine text w.span) words
reads_in_line text words utf8 reads =
    subst (All (λ (w : PlacedWord). LiesInLine text w.span)) (sym reads.listed) (words_lie text 0 reads.pieces utf8 reads.cut)

-- P holds of the alternative's symbols, and of the sign that ends it
pub record AllOfAlternative (P : PlacedWord → Type 0) (x : TextAlternative) : Type 0 where
  pub symbols : All P x.symbols
  pub end : P x.end

-- P holds of the declared tokens, the rules, the alternatives and the symbols of an outline
pub record AllOfOutline (P : PlacedWord → Type 0) (o : TextOutline) : Type 0 where
  pub declared : All P o.declared
  pub defined : All P o.defined
  pub alternatives : All (AllOfAlternative P) o.alternatives
  pub symbols : All P o.symbols

-- the alternative that a sign ends
all_ended : (P : PlacedWord → Type 0) (o : TextOutline) (w : PlacedWord) (r : Option PlacedWord) → P w → All P o.symbols
    → All (AllOfAlternative P) (option_to_list (option_map (λ rule. record { rule = rule; symbols = o.symbols; end = w }) r))
all_ended P o w None holds symbols = All-nil (AllOfAlternative P)
all_ended P o w (Some rule) holds symbols =
    All-cons (AllOfAlternative P) (record { rule = rule; symbols = o.symbols; end = w }) [] (record { symbols = symbols; end = holds }) (All-nil (AllOfAlternative P))

-- one more word
all_with_word : (P : PlacedWord → Type 0) (o : TextOutline) (role : Role) (w : PlacedWord) → P w → AllOfOutline P o → AllOfOutline P (with_word o role w)
unfolding with_word
all_with_word P o Sign w holds all = all
all_with_word P o Start w holds all = record { declared = all.declared; defined = all.defined; alternatives = all.alternatives; symbols = all.symbols }
all_with_word P o Declared w holds all =
    record { declared = All-push P o.declared w all.declared holds; defined = all.defined; alternatives = all.alternatives; symbols = all.symbols }
all_with_word P o EppOf w holds all = record { declared = all.declared; defined = all.defined; alternatives = all.alternatives; symbols = all.symbols }
all_with_word P o Epp w holds all = record { declared = all.declared; defined = all.defined; alternatives = all.alternatives; symbols = all.symbols }
all_with_word P o Defined w holds all =
    record { declared = all.declared; defined = All-push P o.defined w all.defined holds; alternatives = all.alternatives; symbols = all.symbols }
all_with_word P o Symbol w holds all =
    record { declared = all.declared; defined = all.defined; alternatives = all.alternatives; symbols = All-push P o.symbols w all.symbols holds }
all_with_word P o AlternativeEnd w holds all = record {
  declared = all.declared;
  defined = all.defined;
  alternatives = All-append (AllOfAlternative P) o.alternatives (ended o w) all.alternatives
      (all_ended P o w (slice_get o.defined (length o.defined - 1)) holds all.symbols);
  symbols = All-nil P;
}

-- what holds of all words holds of those of their outline
all_after : (P : PlacedWord → Type 0) (expected last : Expected) (o p : TextOutline) (ws : List PlacedWord) → All P ws → AllOfOutline P o
    → after_words expected o ws ≡ Some (last, p) → AllOfOutline P p
all_after P expected last o p [] holds all is =
    subst (AllOfOutline P) (ap (λ (q : Expected × TextOutline). q.1) (same_Some (expected, o) (last, p) is)) all
all_after P expected last o p (w ∷ ws) holds all is =
    (elim (after expected w.kind) as (λ r. option_and_then (λ step. after_words step.1 (with_word o step.0 w) ws) r ≡ Some (last, p) → AllOfOutline P p) [
      | None ↦ λ no. absurd (cc)
      | Some step ↦ λ yes. all_after P step.1 last (with_word o step.0 w) p ws (All-tail P w ws holds) (all_with_word P o step.0 w (All-head P w ws holds) all) yes
    ]) is

-- an outline without words
all_none : (P : PlacedWord → Type 0) → AllOfOutline P no_words
all_none P = record { declared = All-nil P; defined = All-nil P; alternatives = All-nil (AllOfAlternative P); symbols = All-nil P }

-- the words of a text's outline lie in the text, each on one line
pub outline_in_line : (text : List ℕ) (o : TextOutline) → IsUtf8 text → IsOutlineOf text o → AllOfOutline (λ w. LiesInLine text w.span) o
outline_in_line text o utf8 outlined =
    all_after (λ w. LiesInLine text w.span) Declaration outlined.have.last no_words o outlined.words (reads_in_line text outlined.words utf8 outlined.reads)
    (all_none (λ w. LiesInLine text w.span)) outlined.have.shape
