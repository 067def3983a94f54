-- The words that are read are in the order of the text.
use Rattle.std.proofs.Common.{◌≤◌, ◌+◌, ◌-◌, ℕ, zero, suc, List, [], ◌∷◌, length, nat_lt, Option, Some, None, option_map, arith}
use Rattle.std.specs.List.{All, AllPairs}
use Rattle.std.specs.Option.{IfSome, option_map_or, option_to_list}
use Rattle.std.proofs.lemmas.Bool.{cond_both}
use Rattle.std.proofs.lemmas.List.Elements.{All-cons, All-nil, All-tail, All-weaker}
use Rattle.std.proofs.lemmas.List.Kept.{AllPairs-cons}
use Rattle.lrpar_grammar_bison.specs.declared.words.Piece.{Piece}
use Rattle.lrpar_grammar_bison.specs.declared.words.WordKind.{WordKind}
use Rattle.lrpar_grammar_bison.specs.Words.{PlacedWord, piece_at, word_at}
use Rattle.lrpar_grammar_bison.specs.WordList.{Reading, all_read, marks, read, read_from, stuck_at, with_words, word_of}
use Rattle.lrpar_grammar_bison.proofs.LengthLemmas.{piece_within}

-- a word begins at or after one place and ends at or before another, and not before it begins
pub record LiesBetween (from to : ℕ) (w : PlacedWord) : Type 0 where
  pub start : from ≤ w.span.start
  pub whole : w.span.start ≤ w.span.end
  pub end : w.span.end ≤ to

-- the words lie between two places, and each ends at or before the start of the next
pub record AreInOrder (from to : ℕ) (ws : List PlacedWord) : Type 0 where
  pub each : All (LiesBetween from to) ws
  pub apart : AllPairs (λ x y. x.span.end ≤ y.span.start) ws

-- no words are in order
none_in_order : (from to : ℕ) → AreInOrder from to []
none_in_order from to = record { each = All-nil (LiesBetween from to); apart = λ i j d before within. absurd (omega arith) }

-- words that begin after a place begin after an earlier one
earlier_in_order : (earlier from to : ℕ) (ws : List PlacedWord) → earlier ≤ from → AreInOrder from to ws → AreInOrder earlier to ws
earlier_in_order earlier from to ws le order = record {
  each = All-weaker (LiesBetween from to) (LiesBetween earlier to) (λ w lies. record { start = omega (arith, lies.start); whole = lies.whole; end = lies.end }) ws order.each;
  apart = order.apart;
}

-- a word, and others after it
more_in_order : (from to : ℕ) (w : PlacedWord) (ws : List PlacedWord) → LiesBetween from to w → AreInOrder w.span.end to ws → AreInOrder from to (w ∷ ws)
more_in_order from to w ws lies order =
    let later = earlier_in_order from w.span.end to ws (omega (arith, lies.start, lies.whole)) order in
    record {
      each = All-cons (LiesBetween from to) w ws lies later.each;
      apart = AllPairs-cons (λ (x y : PlacedWord). x.span.end ≤ y.span.start) w ws
          (All-weaker (LiesBetween w.span.end to) (λ (y : PlacedWord). w.span.end ≤ y.span.start) (λ y after. after.start) ws order.each) order.apart;
    }

-- the words after the first of some lie after it
pub others_in_order : (from to : ℕ) (w : PlacedWord) (ws : List PlacedWord) → AreInOrder from to (w ∷ ws) → AreInOrder w.span.end to ws
others_in_order from to w ws order =
    let others = All-tail (LiesBetween from to) w ws order.each in
    record {
      each = λ k d within. record {
        start = order.apart 0 (suc k) d (omega arith) (omega arith);
        whole = (others k d within).whole;
        end = (others k d within).end;
      };
      apart = λ i j d before within. order.apart (suc i) (suc j) d (omega arith) (omega arith);
    }

-- a piece at a place, and what is read after it
by_word : (place len to : ℕ) (s : List ℕ) (word : Option WordKind) (r : Reading) → place + len ≤ to → AreInOrder (place + len) to r.words
    → AreInOrder place to (with_words (option_to_list (option_map (λ kind. word_at place s kind len) word)) r).words
by_word place len to s None r most order = earlier_in_order place (place + len) to r.words (omega arith) order
by_word place len to s (Some kind) r most order =
    more_in_order place to (word_at place s kind len) r.words (record { start = omega arith; whole = omega arith; end = most }) order

-- what is read at a place, by the piece there
by_piece : (place sections to : ℕ) (s rest : List ℕ) (found : Option Piece) → place + length s ≤ to → IfSome found (λ x. x.len ≤ length s)
    → ((sections skip : ℕ) → AreInOrder ((place + 1) + skip) to (read_from (place + 1) sections skip rest).words)
    → AreInOrder place to (option_map_or (λ (x : Piece). with_words (word_of place s x) (read_from (place + 1) (sections + marks x.word) (x.len - 1) rest)) found (stuck_at place)).words
by_piece place sections to s rest None most within later = none_in_order place to
by_piece place sections to s rest (Some x) most within later =
    let r = read_from (place + 1) (sections + marks x.word) (x.len - 1) rest in
    by_word place x.len to s x.word r (omega arith)
    (earlier_in_order (place + x.len) ((place + 1) + (x.len - 1)) to r.words (omega arith) (later (sections + marks x.word) (x.len - 1)))

-- the words that are read from a place on
read_in_order : (s : List ℕ) (place sections skip to : ℕ) → place + length s ≤ to → AreInOrder (place + skip) to (read_from place sections skip s).words
read_in_order [] place sections skip to most = none_in_order (place + skip) to
read_in_order (c ∷ s) place sections (suc skip) to most =
    let r = read_from (place + 1) sections skip s in
    earlier_in_order (place + suc skip) ((place + 1) + skip) to r.words (omega arith) (read_in_order s (place + 1) sections skip to (omega arith))
read_in_order (c ∷ s) place sections zero to most =
    let found = option_map_or (λ (x : Piece). with_words (word_of place (c ∷ s) x) (read_from (place + 1) (sections + marks x.word) (x.len - 1) s)) (piece_at (c ∷ s)) (stuck_at place) in
    cond_both (nat_lt sections 2) found all_read (λ (r : Reading). AreInOrder (place + zero) to r.words)
    (λ _. earlier_in_order (place + zero) place to found.words (omega arith)
    (by_piece place sections to (c ∷ s) s (piece_at (c ∷ s)) most (piece_within (c ∷ s)) (λ n k. read_in_order s (place + 1) n k to (omega arith))))
    (λ _. none_in_order (place + zero) to)

-- the words that are read of a text lie in it, and each ends at or before the start of the next
pub words_in_order : (text : List ℕ) → AreInOrder 0 (length text) (read text).words
words_in_order text = read_in_order text 0 0 0 (length text) (omega arith)
