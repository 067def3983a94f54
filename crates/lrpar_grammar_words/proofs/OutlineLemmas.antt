-- How far a text is read, and the outline of the words that were read.
use Rattle.std.proofs.Common.{◌≡◌, ◌<◌, ◌≤◌, ◌+◌, ◌-◌, ℕ, true, false, List, [], ◌∷◌, ◌++◌, append_assoc, length, length-drop, drop, get_or, Option, Some, None, option_map, option_and_then, zero-add, refl, ap, sym, subst, ◌∙◌, arith}
use Rattle.std.specs.List.{All, Contains, slice_get}
use Rattle.std.specs.Option.{IsNone, MatchOption, is_some, option_to_list}
use Rattle.std.proofs.Math.ListN.{drop_of_length-le}
use Rattle.std.proofs.lemmas.List.{append-nil, drop-drop}
use Rattle.std.proofs.lemmas.List.Elements.{All-append, All-cons, All-nil, All-push, All-weaker, Contains-append_left}
use Rattle.std.proofs.lemmas.List.Quantifiers.{all_pairs_push}
use Rattle.std.proofs.lemmas.Option.{get_or_from_slice_get, same_Some, slice_get_within}
use Rattle.lrpar_grammar_words.specs.declared.words.Piece.{Piece}
use Rattle.lrpar_grammar_words.specs.declared.words.WordKind.{WordKind}
use Rattle.lrpar_grammar_words.specs.declared.word_order.Expected.{Expected}
use Rattle.lrpar_grammar_words.specs.declared.word_order.Expected.TheVariants.{Declaration}
use Rattle.lrpar_grammar_words.specs.declared.word_order.Role.{Role}
use Rattle.lrpar_grammar_words.specs.declared.word_order.Role.TheVariants.{Sign, Start, Declared, EppOf, Epp, Defined, Symbol, AlternativeEnd}
use Rattle.lrpar_grammar_words.specs.Words.{IsCutInto, IsCutUpTo, PlacedWord, ReadsAs, piece_at, word_at, words_of}
use Rattle.lrpar_grammar_words.specs.WordOrder.{after, may_end}
use Rattle.lrpar_grammar_words.specs.Outline.{AreWordsInOrder, HasOrderedSymbols, AreOfDefinedRules, IsOutlineOf, IsStuck, IsStuckAt, IsUnreadableAt, OutlineIsOne, TextOutline, after_words, TextAlternative, ended, no_words, with_word}
use Rattle.lrpar_grammar_words.proofs.WordsLemmas.{no_piece, reads_as_one}

-- the alternative that a sign ends, if a rule is defined
pub ended_is : (o : TextOutline) (w rule : PlacedWord) → slice_get o.defined (length o.defined - 1) ≡ Some rule
    → ended o w ≡ record { rule = rule; symbols = o.symbols; end = w } ∷ []
ended_is o w rule found = ap (λ r. option_to_list (option_map (λ x. record { rule = x; symbols = o.symbols; end = w }) r)) found

-- the alternative that a sign ends is of the last rule defined
of_last : (o : TextOutline) (w : PlacedWord) (r : Option PlacedWord) → slice_get o.defined (length o.defined - 1) ≡ r
    → All {X = TextAlternative} (λ x. Contains o.defined x.rule) (option_to_list (option_map (λ rule. record { rule = rule; symbols = o.symbols; end = w }) r))
of_last o w None is = All-nil (λ (x : TextAlternative). Contains o.defined x.rule)
of_last o w (Some rule) is =
    let k = length o.defined - 1 in
    All-cons (λ (x : TextAlternative). Contains o.defined x.rule) (record { rule = rule; symbols = o.symbols; end = w }) []
    (k, slice_get_within o.defined k rule is, get_or_from_slice_get o.defined k rule rule is) (All-nil (λ (x : TextAlternative). Contains o.defined x.rule))

-- the alternative that a sign ends is of a defined rule
ended_defined : (o : TextOutline) (w : PlacedWord) → All {X = TextAlternative} (λ x. Contains o.defined x.rule) (ended o w)
ended_defined o w = of_last o w (slice_get o.defined (length o.defined - 1)) refl

-- up to a place the text reads as the words `seen`, whatever comes after that place
pub record ReadsTo (text : List ℕ) (place : ℕ) (seen : List PlacedWord) : Type 0 where
  pub onward : (xs : List Piece) → IsCutInto (drop place text) xs → ReadsAs text (seen ++ words_of place (drop place text) xs)
  pub only : (words : List PlacedWord) → ReadsAs text words
      → (xs : List Piece) × IsCutInto (drop place text) xs × (words ≡ seen ++ words_of place (drop place text) xs)

-- nothing is read
pub reads_none : (text : List ℕ) → ReadsTo text 0 []
reads_none text = record {
  onward = λ xs cut. record { pieces = xs; cut = cut; listed = refl };
  only = λ words reads. (reads.pieces, reads.cut, reads.listed);
}

-- the word that a piece is, if it is one
abbrev pub word_of_piece : ℕ → List ℕ → Piece → List PlacedWord
word_of_piece place s x = option_to_list (option_map (λ kind. word_at place s kind x.len) x.word)

-- what is read after one more piece
after_piece : (text : List ℕ) (place : ℕ) (seen words : List PlacedWord) (x : Piece) → piece_at (drop place text) ≡ Some x
    → (xs : List Piece) → IsCutInto (drop place text) xs → words ≡ seen ++ words_of place (drop place text) xs
    → (ys : List Piece) × IsCutInto (drop (place + x.len) text) ys
    × (words ≡ (seen ++ word_of_piece place (drop place text) x) ++ words_of (place + x.len) (drop (place + x.len) text) ys)
after_piece text place seen words x is [] cut listed = absurd (no_piece (drop place text) x cut is)
after_piece text place seen words x is (y ∷ ys) cut listed =
    let s = drop place text in
    let found : ◌≡◌ {A = Option Piece} (Some y) (Some x) = sym cut.0 ∙ is in
    let same : y ≡ x = cc in
    let P : Piece → Type 0 = λ z. IsCutInto (drop z.len s) ys × (words ≡ seen ++ (word_of_piece place s z ++ words_of (place + z.len) (drop z.len s) ys)) in
    let at_x = subst P same (cut.1, listed) in
    let rest : drop x.len s ≡ drop (place + x.len) text = drop-drop x.len place text in (
      ys,
      subst (λ r. IsCutInto r ys) rest at_x.0,
      at_x.1 ∙ ap (λ r. seen ++ (word_of_piece place s x ++ words_of (place + x.len) r ys)) rest
          ∙ sym (append_assoc seen (word_of_piece place s x) (words_of (place + x.len) (drop (place + x.len) text) ys)),
    )

-- one more piece is read
pub reads_more : (text : List ℕ) (place : ℕ) (seen : List PlacedWord) (x : Piece) → piece_at (drop place text) ≡ Some x
    → ReadsTo text place seen → ReadsTo text (place + x.len) (seen ++ word_of_piece place (drop place text) x)
reads_more text place seen x is reads =
    let s = drop place text in
    let t = drop (place + x.len) text in
    let rest : drop x.len s ≡ t = drop-drop x.len place text in
    let word = word_of_piece place s x in
    record {
      onward = λ xs cut.
          let cut' : IsCutInto (drop x.len s) xs = subst (λ r. IsCutInto r xs) (sym rest) cut in
          let same : seen ++ (word ++ words_of (place + x.len) (drop x.len s) xs) ≡ (seen ++ word) ++ words_of (place + x.len) t xs =
          ap (λ r. seen ++ (word ++ words_of (place + x.len) r xs)) rest ∙ sym (append_assoc seen word (words_of (place + x.len) t xs)) in
          subst (ReadsAs text) same (reads.onward (x ∷ xs) (is, cut'));
      only = λ words whole.
          let from = reads.only words whole in
          after_piece text place seen words x is from.0 from.1 from.2;
    }

-- a rest that isn't empty and begins with no piece isn't cut
uncut : (s : List ℕ) (xs : List Piece) → 0 < length s → piece_at s ≡ None → IsCutInto s xs → ⊥
uncut s [] some none cut = let empty : length s ≡ 0 = ap length cut in absurd (omega arith)
uncut s (x ∷ xs) some none cut = let found : ◌≡◌ {A = Option Piece} None (Some x) = sym none ∙ cut.0 in absurd (cc)

-- if no piece begins at a place, the text can't be read
pub reads_stuck : (text : List ℕ) (place : ℕ) (seen : List PlacedWord) → place < length text → piece_at (drop place text) ≡ None
    → ReadsTo text place seen → (words : List PlacedWord) → ReadsAs text words → ⊥
reads_stuck text place seen within none reads words whole =
    let from = reads.only words whole in
    uncut (drop place text) from.0 (omega (arith, length-drop place text)) none from.1

-- an empty rest is cut into nothing
cut_empty : (s : List ℕ) (xs : List Piece) → s ≡ [] → IsCutInto s xs → xs ≡ []
cut_empty s [] empty cut = refl
cut_empty s (x ∷ xs) empty cut = absurd (no_piece s x empty cut.0)

-- at the end the text reads as the words that were seen
pub reads_all : (text : List ℕ) (place : ℕ) (seen : List PlacedWord) → length text ≤ place → ReadsTo text place seen
    → ReadsAs text seen × ((words : List PlacedWord) → ReadsAs text words → words ≡ seen)
reads_all text place seen past reads =
    let empty : drop place text ≡ [] = drop_of_length-le text past in (
      subst (ReadsAs text) (append-nil seen) (reads.onward [] empty),
      λ words whole.
          let from = reads.only words whole in
          from.2 ∙ ap (λ xs. seen ++ words_of place (drop place text) xs) (cut_empty (drop place text) from.0 empty from.1) ∙ append-nil seen,
    )

-- the outline of words followed by other words
pub after_words_append : (expected : Expected) (o : TextOutline) (xs ys : List PlacedWord)
    → after_words expected o (xs ++ ys) ≡ option_and_then (λ step. after_words step.0 step.1 ys) (after_words expected o xs)
after_words_append expected o [] ys = refl
after_words_append expected o (x ∷ xs) ys =
    elim (after expected x.kind) as (λ r. option_and_then (λ step. after_words step.1 (with_word o step.0 x) (xs ++ ys)) r
    ≡ option_and_then (λ step. after_words step.0 step.1 ys) (option_and_then (λ step. after_words step.1 (with_word o step.0 x) xs) r)) [
      | None ↦ refl
      | Some step ↦ after_words_append step.1 (with_word o step.0 x) xs ys
    ]

-- one more piece is cut
cut_more : (s : List ℕ) (xs : List Piece) (n : ℕ) (x : Piece) → IsCutUpTo s n xs → piece_at (drop n s) ≡ Some x → IsCutUpTo s (n + x.len) (xs ++ x ∷ [])
cut_more s [] n x none is = (subst (λ k. piece_at (drop k s) ≡ Some x) none is, omega arith, omega arith)
cut_more s (y ∷ ys) n x (at, few, rest) is =
    let place : y.len + (n - y.len) ≡ n = omega arith in
    let from : drop (n - y.len) (drop y.len s) ≡ drop n s = drop-drop (n - y.len) y.len s ∙ ap (λ k. drop k s) place in
    let len : (n - y.len) + x.len ≡ (n + x.len) - y.len = omega arith in (
      at,
      omega arith,
      subst (λ k. IsCutUpTo (drop y.len s) k (ys ++ x ∷ [])) len
          (cut_more (drop y.len s) ys (n - y.len) x rest (subst (λ r. piece_at r ≡ Some x) (sym from) is)),
    )

-- its word comes after the others
words_more : (s : List ℕ) (xs : List Piece) (n place : ℕ) (x : Piece) → IsCutUpTo s n xs
    → words_of place s (xs ++ x ∷ []) ≡ words_of place s xs ++ word_of_piece (place + n) (drop n s) x
words_more s [] n place x none =
    let at : place ≡ place + n = omega arith in
    append-nil (word_of_piece place s x) ∙ ap (λ k. word_of_piece k s x) at ∙ ap (λ k. word_of_piece (place + n) (drop k s) x) (sym none)
words_more s (y ∷ ys) n place x (at, few, rest) =
    let word = word_of_piece place s y in
    let words = words_of (place + y.len) (drop y.len s) ys in
    let len : y.len + (n - y.len) ≡ n = omega arith in
    let further : (place + y.len) + (n - y.len) ≡ place + n = omega arith in
    let from : drop (n - y.len) (drop y.len s) ≡ drop n s = drop-drop (n - y.len) y.len s ∙ ap (λ k. drop k s) len in
    ap (λ ws. word ++ ws) (words_more (drop y.len s) ys (n - y.len) (place + y.len) x rest
    ∙ ap (λ k. words ++ word_of_piece k (drop (n - y.len) (drop y.len s)) x) further ∙ ap (λ r. words ++ word_of_piece (place + n) r x) from)
    ∙ sym (append_assoc word words (word_of_piece (place + n) (drop n s) x))

-- the same for the words that were seen of a text
listed_more : (text : List ℕ) (place : ℕ) (seen : List PlacedWord) (pieces : List Piece) (x : Piece) → IsCutUpTo text place pieces → seen ≡ words_of 0 text pieces
    → words_of 0 text (pieces ++ x ∷ []) ≡ seen ++ word_of_piece place (drop place text) x
listed_more text place seen pieces x cut listed =
    words_more text pieces place 0 x cut ∙ ap (λ k. words_of 0 text pieces ++ word_of_piece k (drop place text) x) (zero-add place)
    ∙ ap (λ ws. ws ++ word_of_piece place (drop place text) x) (sym listed)

-- up to a place the symbols are in the order of the text
pub record AreOrderedTo (place : ℕ) (o : TextOutline) : Type 0 where
  pub before : All (λ w. w.span.end ≤ place) o.symbols
  pub apart : AreWordsInOrder o.symbols
  pub ended : HasOrderedSymbols o

-- the text is read up to a place, and `expected` and the outline are those of its words so far
pub record OutlinesTo (text : List ℕ) (place : ℕ) (expected : Expected) (o : TextOutline) : Type 0 where
  pub seen : List PlacedWord
  pub reads : ReadsTo text place seen
  pub pieces : List Piece
  pub cut : IsCutUpTo text place pieces
  pub listed : seen ≡ words_of 0 text pieces
  pub shape : after_words Declaration no_words seen ≡ Some (expected, o)
  pub rules : AreOfDefinedRules o
  pub order : AreOrderedTo place o

-- no symbols are in order
ordered_none : AreOrderedTo 0 no_words
ordered_none = record {
  before = All-nil (λ (w : PlacedWord). w.span.end ≤ 0);
  apart = λ i j d before within. absurd (omega arith);
  ended = All-nil (λ (x : TextAlternative). AreWordsInOrder x.symbols);
}

-- what is before a place is before a later one
ordered_later : (place later : ℕ) (o : TextOutline) → place ≤ later → AreOrderedTo place o → AreOrderedTo later o
ordered_later place later o le order = record {
  before = All-weaker (λ (w : PlacedWord). w.span.end ≤ place) (λ (w : PlacedWord). w.span.end ≤ later) (λ w h. omega arith) o.symbols order.before;
  apart = order.apart;
  ended = order.ended;
}

-- one more symbol
ordered_symbol : (place later : ℕ) (o : TextOutline) (w : PlacedWord) → place ≤ w.span.start → w.span.end ≤ later → place ≤ later
    → AreOrderedTo place o → AreOrderedTo later (record o { symbols = o.symbols ++ w ∷ [] })
ordered_symbol place later o w from to le order =
    let before' = ordered_later place later o le order in
    record {
      before = All-push (λ (x : PlacedWord). x.span.end ≤ later) o.symbols w before'.before to;
      apart = all_pairs_push (λ (x y : PlacedWord). x.span.end ≤ y.span.start) o.symbols w order.apart
          (λ k d within. let ends : (get_or o.symbols k d).span.end ≤ place = order.before k d within in omega arith);
      ended = order.ended;
    }

-- the alternative that a sign ends has the symbols in order
ended_ordered : (o : TextOutline) (w : PlacedWord) (r : Option PlacedWord) → AreWordsInOrder o.symbols
    → All {X = TextAlternative} (λ x. AreWordsInOrder x.symbols) (option_to_list (option_map (λ rule. record { rule = rule; symbols = o.symbols; end = w }) r))
ended_ordered o w None apart = All-nil (λ (x : TextAlternative). AreWordsInOrder x.symbols)
ended_ordered o w (Some rule) apart =
    All-cons (λ (x : TextAlternative). AreWordsInOrder x.symbols) (record { rule = rule; symbols = o.symbols; end = w }) [] apart (All-nil (λ (x : TextAlternative). AreWordsInOrder x.symbols))

-- one more word
ordered_word : (place later : ℕ) (o : TextOutline) (role : Role) (w : PlacedWord) → place ≤ w.span.start → w.span.end ≤ later → place ≤ later
    → AreOrderedTo place o → AreOrderedTo later (with_word o role w)
unfolding with_word
ordered_word place later o Sign w from to le order = ordered_later place later o le order
ordered_word place later o Start w from to le order = let h = ordered_later place later o le order in record { before = h.before; apart = h.apart; ended = h.ended }
ordered_word place later o Declared w from to le order = let h = ordered_later place later o le order in record { before = h.before; apart = h.apart; ended = h.ended }
ordered_word place later o EppOf w from to le order = let h = ordered_later place later o le order in record { before = h.before; apart = h.apart; ended = h.ended }
ordered_word place later o Epp w from to le order = let h = ordered_later place later o le order in record { before = h.before; apart = h.apart; ended = h.ended }
ordered_word place later o Defined w from to le order = let h = ordered_later place later o le order in record { before = h.before; apart = h.apart; ended = h.ended }
ordered_word place later o Symbol w from to le order = ordered_symbol place later o w from to le order
ordered_word place later o AlternativeEnd w from to le order = record {
  before = All-nil (λ (x : PlacedWord). x.span.end ≤ later);
  apart = λ i j d before within. absurd (omega arith);
  ended = All-append (λ (x : TextAlternative). AreWordsInOrder x.symbols) o.alternatives (ended o w) order.ended
      (ended_ordered o w (slice_get o.defined (length o.defined - 1)) order.apart);
}

-- nothing is read yet
pub outlines_none : (text : List ℕ) → OutlinesTo text 0 Declaration no_words
outlines_none text = record { seen = []; reads = reads_none text; pieces = []; cut = refl; listed = refl; shape = refl; rules = All-nil (λ (x : TextAlternative). Contains no_words.defined x.rule); order = ordered_none }

-- a piece of blanks
pub outlines_blank : (text : List ℕ) (place : ℕ) (expected : Expected) (o : TextOutline) (x : Piece) → piece_at (drop place text) ≡ Some x
    → x.word ≡ None → OutlinesTo text place expected o → OutlinesTo text (place + x.len) expected o
outlines_blank text place expected o x is blank to =
    let same : to.seen ++ word_of_piece place (drop place text) x ≡ to.seen =
    ap (λ w. to.seen ++ option_to_list (option_map (λ kind. word_at place (drop place text) kind x.len) w)) blank ∙ append-nil to.seen in
    record {
      seen = to.seen;
      reads = subst (ReadsTo text (place + x.len)) same (reads_more text place to.seen x is to.reads);
      pieces = to.pieces ++ x ∷ [];
      cut = cut_more text to.pieces place x to.cut is;
      listed = sym (listed_more text place to.seen to.pieces x to.cut to.listed ∙ same);
      shape = to.shape;
      rules = to.rules;
      order = ordered_later place (place + x.len) o (omega arith) to.order;
    }

-- each alternative stays one of a defined rule
rules_kept : (o : TextOutline) (role : Role) (w : PlacedWord) → AreOfDefinedRules o → AreOfDefinedRules (with_word o role w)
unfolding with_word
rules_kept o Sign w rules = rules
rules_kept o Start w rules = rules
rules_kept o Declared w rules = rules
rules_kept o EppOf w rules = rules
rules_kept o Epp w rules = rules
rules_kept o Defined w rules =
    All-weaker (λ (x : TextAlternative). Contains o.defined x.rule) (λ (x : TextAlternative). Contains (o.defined ++ w ∷ []) x.rule)
    (λ x known. Contains-append_left o.defined (w ∷ []) x.rule known) o.alternatives rules
rules_kept o Symbol w rules = rules
rules_kept o AlternativeEnd w rules = All-append (λ (x : TextAlternative). Contains o.defined x.rule) o.alternatives (ended o w) rules (ended_defined o w)

-- a piece that is a word
pub outlines_word : (text : List ℕ) (place : ℕ) (expected next : Expected) (o : TextOutline) (x : Piece) (kind : WordKind) (role : Role)
    → piece_at (drop place text) ≡ Some x → x.word ≡ Some kind → after expected kind ≡ Some (role, next)
    → OutlinesTo text place expected o → OutlinesTo text (place + x.len) next (with_word o role (word_at place (drop place text) kind x.len))
outlines_word text place expected next o x kind role is word follows to =
    let w = word_at place (drop place text) kind x.len in
    let seen : to.seen ++ word_of_piece place (drop place text) x ≡ to.seen ++ w ∷ [] =
    ap (λ r. to.seen ++ option_to_list (option_map (λ k. word_at place (drop place text) k x.len) r)) word in
    record {
      seen = to.seen ++ w ∷ [];
      reads = subst (ReadsTo text (place + x.len)) seen (reads_more text place to.seen x is to.reads);
      pieces = to.pieces ++ x ∷ [];
      cut = cut_more text to.pieces place x to.cut is;
      listed = sym (listed_more text place to.seen to.pieces x to.cut to.listed ∙ seen);
      shape = after_words_append Declaration no_words to.seen (w ∷ []) ∙ ap (option_and_then (λ step. after_words step.0 step.1 (w ∷ []))) to.shape
          ∙ ap (option_and_then (λ step. after_words step.1 (with_word o step.0 w) [])) follows;
      rules = rules_kept o role w to.rules;
      order = ordered_word place (place + x.len) o role w (omega arith) (omega arith) (omega arith) to.order;
    }

-- a text that was read up to a place is stuck there
stuck_at : (text : List ℕ) (place : ℕ) (expected : Expected) (o : TextOutline) → OutlinesTo text place expected o → IsStuck expected (drop place text) → IsStuckAt text place
stuck_at text place expected o to stuck = record {
  pieces = to.pieces;
  cut = to.cut;
  expected = expected;
  outline = o;
  leads = subst (λ ws. after_words Declaration no_words ws ≡ Some (expected, o)) to.listed to.shape;
  stuck = stuck;
}

-- no piece begins
stuck_piece : (e : Expected) (s : List ℕ) → 0 < length s → piece_at s ≡ None → IsStuck e s
stuck_piece e [] some none = absurd (omega arith)
stuck_piece e (c ∷ s) some none =
    subst (λ (r : Option Piece). MatchOption r (Unit {0}) (λ x. MatchOption x.word ⊥ (λ kind. IsNone (after e kind)))) (sym none) tt

-- a word isn't allowed there
stuck_word : (e : Expected) (s : List ℕ) (x : Piece) (kind : WordKind) → piece_at s ≡ Some x → x.word ≡ Some kind → after e kind ≡ None → IsStuck e s
stuck_word e [] x kind is word none = absurd (cc)
stuck_word e (c ∷ s) x kind is word none =
    subst (λ (r : Option Piece). MatchOption r (Unit {0}) (λ y. MatchOption y.word ⊥ (λ k. IsNone (after e k)))) (sym is)
    (subst (λ (w : Option WordKind). MatchOption w ⊥ (λ k. IsNone (after e k))) (sym word) (ap is_some none))

-- if no piece begins at a place, the text has no outline
unread_piece : (text : List ℕ) (place : ℕ) (expected : Expected) (o : TextOutline) → place < length text → piece_at (drop place text) ≡ None
    → OutlinesTo text place expected o → (p : TextOutline) → IsOutlineOf text p → ⊥
unread_piece text place expected o within none to p outlined = reads_stuck text place to.seen within none to.reads outlined.words outlined.reads

-- and it is stuck there
pub refused_piece : (text : List ℕ) (place : ℕ) (expected : Expected) (o : TextOutline) → place < length text → piece_at (drop place text) ≡ None
    → OutlinesTo text place expected o → IsUnreadableAt text place
refused_piece text place expected o within none to = record {
  unread = unread_piece text place expected o within none to;
  stuck = stuck_at text place expected o to (stuck_piece expected (drop place text) (omega (arith, length-drop place text)) none);
}

-- if a word isn't allowed at its place, the text has no outline
unread_word : (text : List ℕ) (place : ℕ) (expected : Expected) (o : TextOutline) (x : Piece) (kind : WordKind)
    → piece_at (drop place text) ≡ Some x → x.word ≡ Some kind → after expected kind ≡ None
    → OutlinesTo text place expected o → (p : TextOutline) → IsOutlineOf text p → ⊥
unread_word text place expected o x kind is word follows to p outlined =
    let from = to.reads.only outlined.words outlined.reads in
    let more = after_piece text place to.seen outlined.words x is from.0 from.1 from.2 in
    let w = word_at place (drop place text) kind x.len in
    let rest = words_of (place + x.len) (drop (place + x.len) text) more.0 in
    let words : outlined.words ≡ to.seen ++ (w ∷ rest) =
    more.2 ∙ ap (λ r. (to.seen ++ option_to_list (option_map (λ k. word_at place (drop place text) k x.len) r)) ++ rest) word
    ∙ append_assoc to.seen (w ∷ []) rest in
    let none : ◌≡◌ {A = Option (Expected × TextOutline)} (after_words Declaration no_words outlined.words) None =
    ap (after_words Declaration no_words) words ∙ after_words_append Declaration no_words to.seen (w ∷ rest)
    ∙ ap (option_and_then (λ step. after_words step.0 step.1 (w ∷ rest))) to.shape
    ∙ ap (option_and_then (λ step. after_words step.1 (with_word o step.0 w) rest)) follows in
    let found : ◌≡◌ {A = Option (Expected × TextOutline)} None (Some (outlined.have.last, p)) = sym none ∙ outlined.have.shape in
    absurd (cc)

-- and it is stuck there
pub refused_word : (text : List ℕ) (place : ℕ) (expected : Expected) (o : TextOutline) (x : Piece) (kind : WordKind)
    → piece_at (drop place text) ≡ Some x → x.word ≡ Some kind → after expected kind ≡ None → OutlinesTo text place expected o → IsUnreadableAt text place
refused_word text place expected o x kind is word follows to = record {
  unread = unread_word text place expected o x kind is word follows to;
  stuck = stuck_at text place expected o to (stuck_word expected (drop place text) x kind is word follows);
}

-- at the end the text has the outline of its words
pub outlines_all : (text : List ℕ) (place : ℕ) (expected : Expected) (o : TextOutline) → length text ≤ place → may_end expected ≡ true
    → OutlinesTo text place expected o → IsOutlineOf text o
outlines_all text place expected o past ends to =
    record { words = to.seen; reads = (reads_all text place to.seen past to.reads).0; have = record { last = expected; shape = to.shape; ends = ends } }

-- if the text ends too early, it has no outline
unread_end : (text : List ℕ) (place : ℕ) (expected : Expected) (o : TextOutline) → length text ≤ place → may_end expected ≡ false
    → OutlinesTo text place expected o → (p : TextOutline) → IsOutlineOf text p → ⊥
unread_end text place expected o past early to p outlined =
    let words : outlined.words ≡ to.seen = (reads_all text place to.seen past to.reads).1 outlined.words outlined.reads in
    let same : ◌≡◌ {A = Option (Expected × TextOutline)} (Some (outlined.have.last, p)) (Some (expected, o)) =
    sym outlined.have.shape ∙ ap (after_words Declaration no_words) words ∙ to.shape in
    let last : outlined.have.last ≡ expected = ap (λ (q : Expected × TextOutline). q.0) (same_Some _ _ same) in
    let clash : true ≡ false = sym outlined.have.ends ∙ ap may_end last ∙ early in
    absurd (cc)

-- and it is stuck there
pub refused_end : (text : List ℕ) (place : ℕ) (expected : Expected) (o : TextOutline) → length text ≤ place → may_end expected ≡ false
    → OutlinesTo text place expected o → IsUnreadableAt text place
refused_end text place expected o past early to = record {
  unread = unread_end text place expected o past early to;
  stuck = stuck_at text place expected o to (subst (IsStuck expected) (sym (drop_of_length-le text past)) early);
}

-- a text has one outline at most
pub outline_is_one : OutlineIsOne
outline_is_one text x y a b =
    let words : a.words ≡ b.words = reads_as_one text a.words b.words a.reads b.reads in
    let same : ◌≡◌ {A = Option (Expected × TextOutline)} (Some (a.have.last, x)) (Some (b.have.last, y)) =
    sym a.have.shape ∙ ap (after_words Declaration no_words) words ∙ b.have.shape in
    ap (λ (q : Expected × TextOutline). q.1) (same_Some _ _ same)
