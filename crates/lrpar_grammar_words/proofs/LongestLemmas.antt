-- If a text begins with a word or blanks, no fewer bytes are read.
use Rattle.std.proofs.Common.{◌≡◌, ◌≢◌, ◌<◌, ◌≤◌, ◌+◌, ◌==◌, ◌||◌, ◌&&◌, ◌⊎◌, not, nat_eq, nat_lt, ℕ, suc, Bool, true, false, cond, List, [], ◌∷◌, ◌++◌, append_assoc, codes, drop, get_or, length, take, Option, Some, None, option_map, inl, inr, refl, ap, sym, subst, ◌∙◌, arith}
use Rattle.std.specs.List.{All, position_or_len, prefix_len, starts_with}
use Rattle.std.proofs.lemmas.Bool.{false_from_ne_true, false≢true, lt-ltb, ne_eqb}
use Rattle.std.proofs.lemmas.Bool.Decides.{Decides-eqb}
use Rattle.std.proofs.lemmas.List.{get_or_at, length-append, length-take-le, take-append-drop, take-append-le}
use Rattle.std.proofs.lemmas.List.Elements.{All-head, All-tail, All-weaker}
use Rattle.std.proofs.lemmas.Option.{same_Some}
use Rattle.lrpar_grammar_words.specs.declared.words.Piece.{Piece}
use Rattle.lrpar_grammar_words.specs.declared.words.WordKind.{WordKind}
use Rattle.lrpar_grammar_words.specs.declared.words.WordKind.TheVariants.{Name, Quoted, StartSign, TokenSign, EppSign, RulesSign, Colon, Bar, Semicolon}
use Rattle.lrpar_grammar_words.specs.Words.{begins_name, blank_piece, closed_len, comment_after, is_byte_at, is_in_name, is_white, name_after, piece_at, piece_from, quoted_after, sign_after, word_piece}
use Rattle.lrpar_grammar_words.specs.Forms.{IsBlank, IsLongestPiece, IsPieceText, IsWord, NothingIsPassedOver, PiecesAreLongest}
use Rattle.lrpar_grammar_words.proofs.FormLemmas.{starts, text_begins}

-- the piece at the start of s is of this kind, and has n bytes or more
record Reads (s : List ℕ) (word : Option WordKind) (n : ℕ) : Type 0 where
  pub piece : Piece
  pub is : piece_at s ≡ Some piece
  pub kind : piece.word ≡ word
  pub long : n ≤ piece.len

-- the result of a test that is true, and of one that is false
first : (b : Bool) (l r : Option Piece) → b ≡ true → cond b l r ≡ l
first true l r is = refl
first false l r is = absurd (cc)

second : (b : Bool) (l r : Option Piece) → b ≡ false → cond b l r ≡ r
second true l r is = absurd (cc)
second false l r is = refl

-- all of the first elements pass
passes_on : (q : ℕ → Bool) (xs rest : List ℕ) → All (λ c. q c ≡ true) xs → length xs ≤ prefix_len q (xs ++ rest)
passes_on q [] rest all = omega arith
passes_on q (x ∷ xs) rest all =
    let one : prefix_len q ((x ∷ xs) ++ rest) ≡ 1 + prefix_len q (xs ++ rest) = ap (λ b. cond b (1 + prefix_len q (xs ++ rest)) 0) (All-head (λ c. q c ≡ true) x xs all) in
    let more : length xs ≤ prefix_len q (xs ++ rest) = passes_on q xs rest (All-tail (λ c. q c ≡ true) x xs all) in
    omega arith

-- and the one after them doesn't
stops_at : (q : ℕ → Bool) (xs : List ℕ) (y : ℕ) (rest : List ℕ) → All (λ c. q c ≡ true) xs → q y ≡ false → prefix_len q (xs ++ y ∷ rest) ≡ length xs
stops_at q [] y rest all fails = ap (λ b. cond b (1 + prefix_len q rest) 0) fails
stops_at q (x ∷ xs) y rest all fails =
    let one : prefix_len q ((x ∷ xs) ++ y ∷ rest) ≡ 1 + prefix_len q (xs ++ y ∷ rest) = ap (λ b. cond b (1 + prefix_len q (xs ++ y ∷ rest)) 0) (All-head (λ c. q c ≡ true) x xs all) in
    let more : prefix_len q (xs ++ y ∷ rest) ≡ length xs = stops_at q xs y rest (All-tail (λ c. q c ≡ true) x xs all) fails in
    omega arith

-- white space is read
white_reads : (c : ℕ) (rest : List ℕ) → is_white c ≡ true → Reads (c ∷ rest) None 1
unfolding piece_from
white_reads c rest white = record { piece = blank_piece 1; is = first (is_white c) _ _ white; kind = refl; long = omega arith }

-- a byte that begins a name is not one that begins something else
apart : (c k : ℕ) → begins_name k ≡ false → begins_name c ≡ true → (c == k) ≡ false
apart c k other begins = false_from_ne_true (c == k) (λ same. false≢true (sym other ∙ ap begins_name (sym ((Decides-eqb c k).0 same)) ∙ begins))

-- neither of two tests is true
neither : (a b : Bool) → a ≡ false → b ≡ false → (a || b) ≡ false
neither true b left right = absurd (cc)
neither false b left right = right

-- if a byte begins a name, a name is read
name_from : (c : ℕ) (t : List ℕ) → begins_name c ≡ true → piece_from c t ≡ name_after c t
unfolding piece_from
name_from c t begins =
    let white : is_white c ≡ false =
    neither (((c == 32) || (c == 9)) || (c == 13)) (c == 10) (neither ((c == 32) || (c == 9)) (c == 13)
    (neither (c == 32) (c == 9) (apart c 32 refl begins) (apart c 9 refl begins)) (apart c 13 refl begins)) (apart c 10 refl begins) in
    second (is_white c) _ _ white
    ∙ second (c == 47) _ _ (apart c 47 refl begins)
    ∙ second ((c == 39) || (c == 34)) _ _ (neither (c == 39) (c == 34) (apart c 39 refl begins) (apart c 34 refl begins))
    ∙ second (c == 37) _ _ (apart c 37 refl begins)
    ∙ second (c == 58) _ _ (apart c 58 refl begins)
    ∙ second (c == 124) _ _ (apart c 124 refl begins)
    ∙ second (c == 59) _ _ (apart c 59 refl begins)

-- a name is read
name_reads : (c : ℕ) (others rest : List ℕ) → begins_name c ≡ true → All (λ d. is_in_name d ≡ true) others → Reads (c ∷ (others ++ rest)) (Some Name) (suc (length others))
unfolding name_after
name_reads c others rest begins all =
    let n = prefix_len is_in_name (others ++ rest) in
    let long : length others ≤ n = passes_on is_in_name others rest all in
    record {
      piece = word_piece Name (1 + n);
      is = name_from c (others ++ rest) begins ∙ first (begins_name c) _ _ begins;
      kind = refl;
      long = omega arith;
    }

-- bytes other than the quote and a line feed
unquoted_passes : (quote : ℕ) (text : List ℕ) → All (λ c. (c ≢ quote) × (c ≢ 10)) text → All (λ c. not ((c == quote) || (c == 10)) ≡ true) text
unquoted_passes quote text all =
    All-weaker (λ c. (c ≢ quote) × (c ≢ 10)) (λ c. not ((c == quote) || (c == 10)) ≡ true)
    (λ c other. ap not (neither (c == quote) (c == 10) (ne_eqb c quote other.0) (ne_eqb c 10 other.1))) text all

-- a nonempty list has a first element
some_len : (xs : List ℕ) → xs ≢ [] → 0 < length xs
some_len [] some = absurd (some refl)
some_len (x ∷ xs) some = omega arith

-- both tests are true
both : (a b : Bool) → a ≡ true → b ≡ true → (a && b) ≡ true
both true b left right = right
both false b left right = absurd (cc)

-- the quote ends a quoted text
quote_ends : (quote : ℕ) → not ((quote == quote) || (quote == 10)) ≡ false
quote_ends quote = ap (λ b. not (b || (quote == 10))) ((Decides-eqb quote quote).1 refl)

-- a quoted text is read after its first quote
quoted_reads : (quote : ℕ) (text rest : List ℕ) → text ≢ [] → All (λ c. (c ≢ quote) × (c ≢ 10)) text
    → quoted_after quote ((text ++ quote ∷ []) ++ rest) ≡ Some (word_piece Quoted (length text + 2))
unfolding quoted_after
quoted_reads quote text rest some all =
    let p = λ (c : ℕ). (c == quote) || (c == 10) in
    let t = text ++ quote ∷ rest in
    let whole : (text ++ quote ∷ []) ++ rest ≡ t = append_assoc text (quote ∷ []) rest in
    let n : position_or_len p t ≡ length text = stops_at (λ c. not (p c)) text quote rest (unquoted_passes quote text all) (quote_ends quote) in
    let long : length t ≡ length text + suc (length rest) = length-append text (quote ∷ rest) in
    let closed : is_byte_at t (length text) quote ≡ true =
    both (nat_lt (length text) (length t)) (get_or t (length text) 0 == quote) (lt-ltb (length text) (length t) (omega arith))
    ((Decides-eqb (get_or t (length text) 0) quote).1 (get_or_at text quote rest 0 (length text) refl)) in
    let test : (nat_lt 0 (length text) && is_byte_at t (length text) quote) ≡ true =
    both (nat_lt 0 (length text)) (is_byte_at t (length text) quote) (lt-ltb 0 (length text) (some_len text some)) closed in
    ap (quoted_after quote) whole
    ∙ ap (λ k. cond (nat_lt 0 k && is_byte_at t k quote) (Some (word_piece Quoted (k + 2))) None) n
    ∙ first (nat_lt 0 (length text) && is_byte_at t (length text) quote) _ _ test

-- a quoted text is read
quote_reads : (quote : ℕ) (text rest : List ℕ) → (quote ≡ 39) ⊎ (quote ≡ 34) → text ≢ [] → All (λ c. (c ≢ quote) × (c ≢ 10)) text
    → Reads (quote ∷ ((text ++ quote ∷ []) ++ rest)) (Some Quoted) (length text + 2)
unfolding piece_from
quote_reads quote text rest quotes some all =
    let from : piece_from quote ((text ++ quote ∷ []) ++ rest) ≡ quoted_after quote ((text ++ quote ∷ []) ++ rest) =
    elim quotes [
      | inl is ↦ subst (λ q. piece_from q ((text ++ quote ∷ []) ++ rest) ≡ quoted_after q ((text ++ quote ∷ []) ++ rest)) (sym is) refl
      | inr is ↦ subst (λ q. piece_from q ((text ++ quote ∷ []) ++ rest) ≡ quoted_after q ((text ++ quote ∷ []) ++ rest)) (sym is) refl
    ] in
    record { piece = word_piece Quoted (length text + 2); is = from ∙ quoted_reads quote text rest some all; kind = refl; long = omega arith }

-- a comment to the end of the line is read
line_reads : (line rest : List ℕ) → All (λ c. c ≢ 10) line → Reads (47 ∷ 47 ∷ (line ++ rest)) None (suc (suc (length line)))
unfolding piece_from comment_after
line_reads line rest all =
    let n = position_or_len (λ c. c == 10) (line ++ rest) in
    let long : length line ≤ n =
    passes_on (λ c. not (c == 10)) line rest (All-weaker (λ c. c ≢ 10) (λ c. not (c == 10) ≡ true) (λ c other. ap not (ne_eqb c 10 other)) line all) in
    record { piece = blank_piece (2 + n); is = refl; kind = refl; long = omega arith }

-- no `*/` is at the start, if the first two bytes are others
no_close : (s rest : List ℕ) → 2 ≤ length s → take 2 s ≢ codes "*/" → starts_with nat_eq (s ++ rest) (codes "*/") ≡ false
no_close s rest long other = false_from_ne_true (starts_with nat_eq (s ++ rest) (codes "*/")) (λ passes.
    other (sym (take-append-le 2 s rest long) ∙ ap (take 2) (starts (s ++ rest) (codes "*/") passes)))

-- the length of a comment that closes
close_reads : (text rest : List ℕ) → ((k : ℕ) → k < length text → take 2 (drop k (text ++ codes "*/")) ≢ codes "*/")
    → closed_len ((text ++ codes "*/") ++ rest) ≡ Some (length text + 2)
close_reads [] rest unclosed = refl
close_reads (c ∷ text) rest unclosed =
    let s = c ∷ (text ++ codes "*/") in
    let long : length s ≡ suc (length text + 2) = ap suc (length-append text (codes "*/")) in
    let more : (length text + 2) + 1 ≡ suc (length text) + 2 = omega arith in
    ap (λ b. cond b (Some 2) (option_map (λ n. n + 1) (closed_len ((text ++ codes "*/") ++ rest)))) (no_close s rest (omega arith) (unclosed 0 (omega arith)))
    ∙ ap (option_map (λ n. n + 1)) (close_reads text rest (λ k below. unclosed (suc k) (omega arith)))
    ∙ ap (λ n. Some n) more

-- a comment that closes is read
comment_reads : (text rest : List ℕ) → ((k : ℕ) → k < length text → take 2 (drop k (text ++ codes "*/")) ≢ codes "*/")
    → Reads (47 ∷ 42 ∷ ((text ++ codes "*/") ++ rest)) None (2 + (length text + 2))
unfolding piece_from comment_after
comment_reads text rest unclosed = record {
  piece = blank_piece (2 + (length text + 2));
  is = ap (option_map (λ n. blank_piece (2 + n))) (close_reads text rest unclosed);
  kind = refl;
  long = omega arith;
}

-- blanks are read
blank_reads : (p rest : List ℕ) → IsBlank p → Reads (p ++ rest) None (length p)
blank_reads p rest (inl w) = subst (λ q. Reads (q ++ rest) None (length q)) (sym w.is) (white_reads w.byte rest w.white)
blank_reads p rest (inr (inl l)) = subst (λ q. Reads (q ++ rest) None (length q)) (sym l.is) (line_reads l.line rest l.on_line)
blank_reads p rest (inr (inr k)) =
    let long : 2 + (length k.text + 2) ≡ length (codes "/*" ++ (k.text ++ codes "*/")) = let after : length (k.text ++ codes "*/") ≡ length k.text + 2 = length-append k.text (codes "*/") in omega arith in
    subst (λ q. Reads (q ++ rest) None (length q)) (sym k.is)
    (subst (Reads ((codes "/*" ++ (k.text ++ codes "*/")) ++ rest) None) long (comment_reads k.text rest k.unclosed))

-- a sign is read
sign_reads : (p rest : List ℕ) (sign : List ℕ) (kind : WordKind) → p ≡ sign → piece_at (sign ++ rest) ≡ Some (word_piece kind (length sign)) → Reads (p ++ rest) (Some kind) (length p)
sign_reads p rest sign kind is reads =
    subst (λ q. Reads (q ++ rest) (Some kind) (length q)) (sym is) (record { piece = word_piece kind (length sign); is = reads; kind = refl; long = omega arith })

-- a word is read
word_reads : (kind : WordKind) (p rest : List ℕ) → IsWord kind p → Reads (p ++ rest) (Some kind) (length p)
unfolding piece_from sign_after
word_reads Name p rest w = subst (λ q. Reads (q ++ rest) (Some Name) (length q)) (sym w.is) (name_reads w.first w.others rest w.begins w.goes_on)
word_reads Quoted p rest w =
    let long : length w.text + 2 ≡ length (w.quote ∷ (w.text ++ w.quote ∷ [])) = let after : length (w.text ++ w.quote ∷ []) ≡ length w.text + 1 = length-append w.text (w.quote ∷ []) in omega arith in
    subst (λ q. Reads (q ++ rest) (Some Quoted) (length q)) (sym w.is)
    (subst (Reads ((w.quote ∷ (w.text ++ w.quote ∷ [])) ++ rest) (Some Quoted)) long (quote_reads w.quote w.text rest w.quotes w.some w.unquoted))
word_reads StartSign p rest is = sign_reads p rest (codes "%start") StartSign is refl
word_reads TokenSign p rest is = sign_reads p rest (codes "%token") TokenSign is refl
word_reads EppSign p rest is = sign_reads p rest (codes "%epp") EppSign is refl
word_reads RulesSign p rest is = sign_reads p rest (codes "%%") RulesSign is refl
word_reads Colon p rest is = sign_reads p rest (codes ":") Colon is refl
word_reads Bar p rest is = sign_reads p rest (codes "|") Bar is refl
word_reads Semicolon p rest is = sign_reads p rest (codes ";") Semicolon is refl

-- a word or blanks are read
piece_reads : (word : Option WordKind) (p rest : List ℕ) → IsPieceText word p → Reads (p ++ rest) word (length p)
piece_reads (Some kind) p rest is = word_reads kind p rest is
piece_reads None p rest is = blank_reads p rest is

-- the same for the first bytes of a text
front_reads : (s : List ℕ) (n : ℕ) (word : Option WordKind) → IsPieceText word (take n s) → Reads s word (length (take n s))
front_reads s n word is = subst (λ t. Reads t word (length (take n s))) (take-append-drop n s) (piece_reads word (take n s) (drop n s) is)

-- the piece that is read is the longest
read_is_longest : (s : List ℕ) (x : Piece) → piece_at s ≡ Some x → IsLongestPiece s x
read_is_longest s x is =
    let begins = text_begins s x is in
    record {
      within = begins.within;
      is = begins.is;
      longest = λ n word within piece.
          let other = front_reads s n word piece in
          let same : other.piece ≡ x = same_Some other.piece x (sym other.is ∙ is) in
          let len : length (take n s) ≡ n = length-take-le n s within in
          let long : length (take n s) ≤ x.len = subst (λ (y : Piece). length (take n s) ≤ y.len) same other.long in
          omega arith;
    }

-- pieces of equal kind and length are equal
same_piece : (x y : Piece) → x.word ≡ y.word → x.len ≡ y.len → x ≡ y
same_piece x y word len = ap (λ w. record { word = w; len = x.len }) word ∙ ap (λ n. record { word = y.word; len = n }) len

-- the longest piece is read
longest_is_read : (s : List ℕ) (x : Piece) → IsLongestPiece s x → piece_at s ≡ Some x
longest_is_read s x most =
    let other = front_reads s x.len x.word most.is in
    let begins = text_begins s other.piece other.is in
    let len : length (take x.len s) ≡ x.len = length-take-le x.len s most.within in
    let long : length (take x.len s) ≤ other.piece.len = other.long in
    let short : other.piece.len ≤ x.len = most.longest other.piece.len other.piece.word begins.within begins.is in
    let same : other.piece.len ≡ x.len = omega arith in
    other.is ∙ ap (λ y. Some y) (same_piece other.piece x other.kind same)

-- the piece that is read is the longest word or blanks
pub pieces_are_longest : PiecesAreLongest
pieces_are_longest s x = (read_is_longest s x, longest_is_read s x)

-- if nothing is read, no word and no blanks begin there
pub nothing_is_passed_over : NothingIsPassedOver
nothing_is_passed_over s none n word is =
    let other = front_reads s n word is in
    let both_ways : ◌≡◌ {A = Option Piece} None (Some other.piece) = sym none ∙ other.is in
    absurd (cc)
