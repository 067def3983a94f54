-- A text is stuck at one place at most.
use Rattle.std.proofs.Common.{◌≡◌, ◌≤◌, ◌+◌, ◌-◌, ℕ, List, [], ◌∷◌, ◌++◌, drop, Option, Some, None, option_and_then, ap, sym, subst, ◌∙◌, arith}
use Rattle.std.specs.Option.{IsNone, MatchOption, option_map, option_to_list}
use Rattle.std.proofs.lemmas.List.{drop-drop}
use Rattle.std.proofs.lemmas.Option.{same_Some}
use Rattle.lrpar_grammar_words.specs.declared.words.Piece.{Piece}
use Rattle.lrpar_grammar_words.specs.declared.words.WordKind.{WordKind}
use Rattle.lrpar_grammar_words.specs.declared.word_order.Expected.{Expected}
use Rattle.lrpar_grammar_words.specs.declared.word_order.Expected.TheVariants.{Declaration}
use Rattle.lrpar_grammar_words.specs.declared.word_order.Role.{Role}
use Rattle.lrpar_grammar_words.specs.Words.{IsCutUpTo, PlacedWord, piece_at, word_at, words_of}
use Rattle.lrpar_grammar_words.specs.WordOrder.{after}
use Rattle.lrpar_grammar_words.specs.Outline.{IsStuck, StuckIsOne, TextOutline, after_words, no_words, with_word}
use Rattle.lrpar_grammar_words.proofs.OutlineLemmas.{after_words_append, word_of_piece}

-- a step that isn't there leads nowhere
no_step : (r : Option (Role × Expected)) (o : TextOutline) (w : PlacedWord) (ws : List PlacedWord) (found : Expected × TextOutline) → IsNone r
    → ◌≡◌ {A = Option (Expected × TextOutline)} (option_and_then (λ (step : Role × Expected). after_words step.1 (with_word o step.0 w) ws) r) (Some found) → ⊥
no_step None o w ws found none leads = absurd (cc)
no_step (Some step) o w ws found none leads = absurd (cc)

-- if reading is stuck, the next piece leads nowhere
stuck_word : (e : Expected) (o : TextOutline) (place : ℕ) (s : List ℕ) (x : Piece) (ws : List PlacedWord) (word : Option WordKind) (found : Expected × TextOutline)
    → MatchOption word ⊥ (λ kind. IsNone (after e kind))
    → ◌≡◌ {A = Option (Expected × TextOutline)} (after_words e o (option_to_list (option_map (λ kind. word_at place s kind x.len) word) ++ ws)) (Some found) → ⊥
stuck_word e o place s x ws None found stuck leads = stuck
stuck_word e o place s x ws (Some kind) found stuck leads = no_step (after e kind) o (word_at place s kind x.len) ws found stuck leads

-- the same for the piece at the start of s
stuck_piece : (e : Expected) (o : TextOutline) (place : ℕ) (s : List ℕ) (x : Piece) (ws : List PlacedWord) (found : Expected × TextOutline) → piece_at s ≡ Some x → IsStuck e s
    → ◌≡◌ {A = Option (Expected × TextOutline)} (after_words e o (word_of_piece place s x ++ ws)) (Some found) → ⊥
stuck_piece e o place [] x ws found is stuck leads = absurd (cc)
stuck_piece e o place (c ∷ s) x ws found is stuck leads =
    let here = subst (λ (r : Option Piece). MatchOption r (Unit {0}) (λ y. MatchOption y.word ⊥ (λ kind. IsNone (after e kind)))) is stuck in
    stuck_word e o place (c ∷ s) x ws x.word found here leads

-- the words of the pieces xs lead from here to a place where reading is stuck
record LeadsTo (e : Expected) (o : TextOutline) (place : ℕ) (s : List ℕ) (n : ℕ) (xs : List Piece) : Type 0 where
  pub cut : IsCutUpTo s n xs
  pub last : Expected × TextOutline
  pub leads : after_words e o (words_of place s xs) ≡ Some last
  pub stuck : IsStuck last.0 (drop n s)

-- one list of pieces is empty, and the other isn't
stuck_first : (e : Expected) (o : TextOutline) (place : ℕ) (s : List ℕ) (n m : ℕ) (y : Piece) (ys : List Piece) → LeadsTo e o place s n [] → LeadsTo e o place s m (y ∷ ys) → ⊥
stuck_first e o place s n m y ys a b =
    let same : e ≡ a.last.0 = ap (λ (r : Expected × TextOutline). r.0) (same_Some (e, o) a.last a.leads) in
    let here : IsStuck e s = subst (λ k. IsStuck e (drop k s)) a.cut (subst (λ (f : Expected). IsStuck f (drop n s)) (sym same) a.stuck) in
    stuck_piece e o place s y (words_of (place + y.len) (drop y.len s) ys) b.last b.cut.0 here b.leads

-- the same after one piece
further : (f : Expected) (p : TextOutline) (place : ℕ) (s : List ℕ) (n : ℕ) (x : Piece) (xs : List Piece) (last : Expected × TextOutline) → x.len ≤ n → IsCutUpTo (drop x.len s) (n - x.len) xs
    → after_words f p (words_of (place + x.len) (drop x.len s) xs) ≡ Some last → IsStuck last.0 (drop n s) → LeadsTo f p (place + x.len) (drop x.len s) (n - x.len) xs
further f p place s n x xs last few cut leads stuck =
    let len : x.len + (n - x.len) ≡ n = omega arith in
    let from : drop (n - x.len) (drop x.len s) ≡ drop n s = drop-drop (n - x.len) x.len s ∙ ap (λ k. drop k s) len in
    record { cut = cut; last = last; leads = leads; stuck = subst (IsStuck last.0) (sym from) stuck }

-- what both read first leads both to the same outline
both_on : (r : Option (Expected × TextOutline)) (ws vs : List PlacedWord) (a b : Expected × TextOutline) (P : Type 0)
    → option_and_then (λ (step : Expected × TextOutline). after_words step.0 step.1 ws) r ≡ Some a
    → option_and_then (λ (step : Expected × TextOutline). after_words step.0 step.1 vs) r ≡ Some b
    → ((f : Expected) (p : TextOutline) → after_words f p ws ≡ Some a → after_words f p vs ≡ Some b → P) → P
both_on None ws vs a b P left right on = absurd (cc)
both_on (Some step) ws vs a b P left right on = on step.0 step.1 left right

-- both are stuck at the same place
one_place : (xs ys : List Piece) (e : Expected) (o : TextOutline) (place : ℕ) (s : List ℕ) (n m : ℕ) → LeadsTo e o place s n xs → LeadsTo e o place s m ys → n ≡ m
one_place [] [] e o place s n m a b = a.cut ∙ sym b.cut
one_place [] (y ∷ ys) e o place s n m a b = absurd (stuck_first e o place s n m y ys a b)
one_place (x ∷ xs) [] e o place s n m a b = absurd (stuck_first e o place s m n x xs b a)
one_place (x ∷ xs) (y ∷ ys) e o place s n m a b =
    let same : y ≡ x = same_Some y x (sym b.cut.0 ∙ a.cut.0) in
    let Q : Piece → Type 0 = λ z. (z.len ≤ m) × IsCutUpTo (drop z.len s) (m - z.len) ys
    × (after_words e o (word_of_piece place s z ++ words_of (place + z.len) (drop z.len s) ys) ≡ Some b.last) in
    let other = subst Q same (b.cut.1, b.cut.2, b.leads) in
    let word = word_of_piece place s x in
    let ws = words_of (place + x.len) (drop x.len s) xs in
    let vs = words_of (place + x.len) (drop x.len s) ys in
    let few : x.len ≤ n = a.cut.1 in
    let few' : x.len ≤ m = other.0 in
    let rest : n - x.len ≡ m - x.len =
    both_on (after_words e o word) ws vs a.last b.last (n - x.len ≡ m - x.len) (sym (after_words_append e o word ws) ∙ a.leads) (sym (after_words_append e o word vs) ∙ other.2)
    (λ f p left right. one_place xs ys f p (place + x.len) (drop x.len s) (n - x.len) (m - x.len)
    (further f p place s n x xs a.last few a.cut.2 left a.stuck) (further f p place s m x ys b.last few' other.1 right b.stuck)) in
    omega arith

-- a text is stuck at one place at most
pub stuck_is_one : StuckIsOne
stuck_is_one text p q a b =
    one_place a.pieces b.pieces Declaration no_words 0 text p q
    (record { cut = a.cut; last = (a.expected, a.outline); leads = a.leads; stuck = a.stuck })
    (record { cut = b.cut; last = (b.expected, b.outline); leads = b.leads; stuck = b.stuck })
