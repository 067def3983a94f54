-- Names that are repeated, one name after another.
use Rattle.std.proofs.Common.{◌≡◌, ◌<◌, ◌+◌, ◌++◌, ◌||◌, ℕ, Bool, true, false, cond, List, [], ◌∷◌, length, drop, get_or, map, take, bytes_eq, nat_cmp, Bor, Option, Some, refl, ap, sym, ◌∙◌}
use Rattle.std.specs.BTreeMap.{BTreeMap, get_by}
use Rattle.std.specs.Cmp.Lexicographic.{slice_cmp}
use Rattle.std.specs.List.{list_any}
use Rattle.std.specs.Map.{update}
use Rattle.std.specs.Option.{is_some}
use Rattle.std.proofs.lemmas.List.{drop_more, map-append, take_more}
use Rattle.std.proofs.lemmas.List.Folds.{list_any-append}
use Rattle.std.proofs.lemmas.Slice.Eq.{bytes_eq-Decides}
use Rattle.std.proofs.lemmas.Bool.{false_from_ne_true, false≢true}
use Rattle.lrpar_grammar_places.specs.Span.{Extent}
use Rattle.lrpar_grammar_words.specs.declared.words.Word.{Word}
use Rattle.lrpar_grammar_words.specs.Words.{PlacedWord, placed}
use Rattle.lrpar_grammar_yacc.specs.Faults.{repeated_after}

-- the names of words
abbrev pub names_before : List Word → List (List ℕ)
names_before words = map (λ (w : PlacedWord). w.name) (map placed words)

-- the names of one more word
pub names_more : (words : List Word) (i : ℕ) (d : Word) → i < length words
    → names_before (take (i + 1) words) ≡ names_before (take i words) ++ (placed (get_or words i d)).name ∷ []
names_more words i d within =
    ap names_before (take_more words i d within) ∙ ap (map (λ (w : PlacedWord). w.name)) (map-append placed (take i words) (get_or words i d ∷ []))
    ∙ map-append (λ (w : PlacedWord). w.name) (map placed (take i words)) (placed (get_or words i d) ∷ [])

-- the rest of the words, by the first of them
pub repeated_by : (words : List Word) (i : ℕ) (d : Word) (before : List (List ℕ)) → i < length words
    → repeated_after before (map placed (drop i words))
    ≡ cond (list_any (bytes_eq (placed (get_or words i d)).name) before) (Some (placed (get_or words i d)).span)
    (repeated_after (before ++ (placed (get_or words i d)).name ∷ []) (map placed (drop (i + 1) words)))
repeated_by words i d before within = ap (λ s. repeated_after before (map placed s)) (drop_more words i d within)

-- a name that is among the names before
pub repeated_here : (words : List Word) (i : ℕ) (d : Word) (before : List (List ℕ)) (span : Extent) → i < length words
    → span ≡ (placed (get_or words i d)).span → list_any (bytes_eq (placed (get_or words i d)).name) before ≡ true
    → ◌≡◌ {A = Option Extent} (Some span) (repeated_after before (map placed (drop i words)))
repeated_here words i d before span within is among =
    let w = placed (get_or words i d) in
    ap (λ (s : Extent). Some s) is
    ∙ sym (repeated_by words i d before within
    ∙ ap (λ b. cond b (Some w.span) (repeated_after (before ++ w.name ∷ []) (map placed (drop (i + 1) words)))) among)

-- a name that isn't
pub repeated_later : (words : List Word) (i : ℕ) (d : Word) → i < length words → list_any (bytes_eq (placed (get_or words i d)).name) (names_before (take i words)) ≡ false
    → repeated_after (names_before (take i words)) (map placed (drop i words)) ≡ repeated_after (names_before (take (i + 1) words)) (map placed (drop (i + 1) words))
repeated_later words i d within other =
    let w = placed (get_or words i d) in
    let before = names_before (take i words) in
    repeated_by words i d before within
    ∙ ap (λ b. cond b (Some w.span) (repeated_after (before ++ w.name ∷ []) (map placed (drop (i + 1) words)))) other
    ∙ ap (λ b. repeated_after b (map placed (drop (i + 1) words))) (sym (names_more words i d within))

-- no truth is false
no_both : (t : Bool) → t ≡ false → t ≡ true → ⊥
no_both t f is = absurd (false≢true (sym f ∙ is))

-- equality of names is symmetric
bytes_eq_flip : (a b : List ℕ) (t : Bool) → bytes_eq b a ≡ t → bytes_eq a b ≡ t
bytes_eq_flip a b true same = (bytes_eq-Decides a b).1 (sym ((bytes_eq-Decides b a).0 same))
bytes_eq_flip a b false other =
    false_from_ne_true (bytes_eq a b) (λ same. no_both (bytes_eq b a) other ((bytes_eq-Decides b a).1 (sym ((bytes_eq-Decides a b).0 same))))

-- either test
either_test : (t : Bool) (a : Bool) → cond t true a ≡ (a || t)
either_test true true = refl
either_test true false = refl
either_test false true = refl
either_test false false = refl

-- a found value, or the one before
found_or : {X : Type 0} (t : Bool) (x : X) (old : Option X) → is_some (cond t (Some x) old) ≡ cond t true (is_some old)
found_or true x old = refl
found_or false x old = refl

-- a name is among the names with one more
among_more : (before : List (List ℕ)) (name q : List ℕ) → list_any (bytes_eq q) (before ++ name ∷ []) ≡ (list_any (bytes_eq q) before || bytes_eq name q)
among_more before name q =
    list_any-append (bytes_eq q) before (name ∷ []) ∙ ap (λ t. list_any (bytes_eq q) before || t) (one (bytes_eq q name) ∙ bytes_eq_flip q name (bytes_eq name q) refl)
  where
    one : (t : Bool) → (t || false) ≡ t
    one true = refl
    one false = refl

-- the names in the map, with one more
pub seen_more : (m n : BTreeMap (Bor (List ℕ)) (Unit {0})) (before : List (List ℕ)) (name : List ℕ)
    → ((q : List ℕ) → is_some (get_by (λ k. slice_cmp nat_cmp q k.now) m) ≡ list_any (bytes_eq q) before)
    → ((q : List ℕ) → get_by (λ k. slice_cmp nat_cmp q k.now) n ≡ update bytes_eq (λ ds. get_by (λ k. slice_cmp nat_cmp ds k.now) m) name (Some tt) q)
    → (q : List ℕ) → is_some (get_by (λ k. slice_cmp nat_cmp q k.now) n) ≡ list_any (bytes_eq q) (before ++ name ∷ [])
seen_more m n before name seen put q =
    let old = get_by (λ k. slice_cmp nat_cmp q k.now) m in
    ap is_some (put q) ∙ found_or (bytes_eq name q) tt old ∙ ap (cond (bytes_eq name q) true) (seen q) ∙ either_test (bytes_eq name q) (list_any (bytes_eq q) before)
    ∙ sym (among_more before name q)
