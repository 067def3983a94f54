-- The names of symbols, and the numbers that words of a production name.
use Rattle.std.proofs.Common.{◌≡◌, ◌<◌, ◌≤◌, ◌+◌, ℕ, zero, suc, cond, List, [], ◌∷◌, ◌++◌, append_assoc, bytes_eq, drop, get_or, length, map, take, Option, Some, None, option_map, option_and_then, nat_cmp, ap, refl, sym, ◌∙◌, arith, Bor}
use Rattle.std.specs.BTreeMap.{BTreeMap, get_by}
use Rattle.std.specs.Cmp.Lexicographic.{slice_cmp}
use Rattle.std.specs.List.{slice_get}
use Rattle.std.specs.Map.{update}
use Rattle.std.specs.Option.{option_map_or}
use Rattle.std.proofs.lemmas.List.{append-nil, at_drop_all, at_drop_more, get_or-map, length-map, map-append}
use Rattle.lrpar_grammar_words.specs.declared.words.Word.{Word}
use Rattle.lrpar_grammar_words.specs.Words.{PlacedWord, ReadsAs, placed}
use Rattle.lrpar_grammar_words.proofs.WordsLemmas.{reads_as_one}
use Rattle.lrpar_grammar_reader.specs.Grammar.{Grammar, rule_name, rules_len}
use Rattle.lrpar_grammar.specs.Spelled.{NamedSymbols, first_number, number_named, numbers_named, numbers_spelled}
use Rattle.lrpar_grammar.specs.SymbolNames.{AreFirst, AreNumbersOf}

-- what the first members are mapped to, with one more
pub named_more : {X : Type 0} (f : X → List ℕ) (xs : List X) (i : ℕ) → i < length xs
    → map f (take (i + 1) xs) ≡ map f (take i xs) ++ option_map_or f (slice_get xs i) [] ∷ []
named_more f [] i within = absurd (omega arith)
named_more f (x ∷ xs) zero within = refl
named_more f (x ∷ xs) (suc i) within =
    let next : suc i + 1 ≡ suc (i + 1) = omega arith in
    ap (λ n. map f (take n (x ∷ xs))) next ∙ ap (λ s. f x ∷ s) (named_more f xs i (omega arith))

-- the names of the rules, with one more
pub rule_names_more : (g : Grammar) (i n : ℕ) (made pushed : List (Bor (List ℕ))) (x : Bor (List ℕ)) → i < rules_len g → n ≡ i
    → map (λ x. x.now) made ≡ map (λ rule. rule.name) (take i g.rules) → pushed ≡ made ++ x ∷ [] → x.now ≡ rule_name g n
    → map (λ x. x.now) pushed ≡ map (λ rule. rule.name) (take (i + 1) g.rules)
rule_names_more g i n made pushed x within same so_far more is =
    ap (map (λ x. x.now)) more ∙ map-append (λ x. x.now) made (x ∷ []) ∙ ap (λ s. s ++ x.now ∷ []) so_far
    ∙ ap (λ y. map (λ rule. rule.name) (take i g.rules) ++ y ∷ []) (is ∙ ap (rule_name g) same)
    ∙ sym (named_more (λ rule. rule.name) g.rules i within)

-- a name that is put into the map gets its number, and comes before the others
pub first_put : (m n : BTreeMap (Bor (List ℕ)) ℕ) (names : List (List ℕ)) (i : ℕ) (name : List ℕ) → i < length names → name ≡ get_or names i []
    → AreFirst m (i + 1) (drop (i + 1) names)
    → ((q : List ℕ) → get_by (λ k. slice_cmp nat_cmp q k.now) n ≡ update bytes_eq (λ ds. get_by (λ k. slice_cmp nat_cmp ds k.now) m) name (Some i) q)
    → AreFirst n i (drop i names)
first_put m n names i name within is so_far put = λ q.
    put q ∙ ap (cond (bytes_eq name q) (Some i)) (so_far q)
    ∙ ap (λ x. cond (bytes_eq x q) (Some i) (first_number (i + 1) (drop (i + 1) names) q)) is
    ∙ sym (at_drop_more (λ xs. first_number i xs q) names i [] within)

-- no names are left at the end
pub first_none : (m : BTreeMap (Bor (List ℕ)) ℕ) (names : List (List ℕ)) (i : ℕ) → length names ≤ i → m.entries ≡ [] → AreFirst m i (drop i names)
first_none m names i past none = λ q. ap (Rattle.std.specs.Map.lookup _) none ∙ sym (at_drop_all (λ xs. first_number i xs q) names i past)

module _ (n : NamedSymbols) where
  -- the first word names a symbol
  pub named_first : (w : PlacedWord) (ws : List PlacedWord) (k : ℕ) → number_named n w.kind w.name ≡ Some k
      → numbers_named n (w ∷ ws) ≡ option_map (λ ks. (k ∷ []) ++ ks) (numbers_named n ws)
  named_first w ws k is = ap (option_and_then (λ k. option_map (λ ks. k ∷ ks) (numbers_named n ws))) is

  -- the first word names none
  pub unnamed_first : (w : PlacedWord) (ws : List PlacedWord) → number_named n w.kind w.name ≡ None → numbers_named n (w ∷ ws) ≡ None
  unnamed_first w ws is = ap (option_and_then (λ k. option_map (λ ks. k ∷ ks) (numbers_named n ws))) is

  -- one number after others
  push_number : (xs : List ℕ) (k : ℕ) (o : Option (List ℕ)) → option_map (λ ks. xs ++ ks) (option_map (λ ks. k ∷ ks) o) ≡ option_map (λ ks. (xs ++ k ∷ []) ++ ks) o
  push_number xs k None = refl
  push_number xs k (Some ks) = ap (λ (s : List ℕ). Some s) (sym (append_assoc xs (k ∷ []) ks))

  -- the next word names a symbol
  pub named_more_words : (ws : List PlacedWord) (i : ℕ) (w : PlacedWord) (xs : List ℕ) (k : ℕ) → i < length ws → w ≡ get_or ws i w
      → number_named n w.kind w.name ≡ Some k
      → option_map (λ ks. xs ++ ks) (numbers_named n (drop i ws)) ≡ option_map (λ ks. (xs ++ k ∷ []) ++ ks) (numbers_named n (drop (i + 1) ws))
  named_more_words ws i w xs k within is named =
      let rest = drop (i + 1) ws in
      let step : numbers_named n (drop i ws) ≡ option_map (λ ks. k ∷ ks) (numbers_named n rest) =
      at_drop_more (numbers_named n) ws i w within ∙ ap (λ x. numbers_named n (x ∷ rest)) (sym is) ∙ named_first w rest k named in
      ap (option_map (λ ks. xs ++ ks)) step ∙ push_number xs k (numbers_named n rest)

  -- the next word names none
  pub unnamed_word : (ws : List PlacedWord) (i : ℕ) (w : PlacedWord) (xs : List ℕ) → i < length ws → w ≡ get_or ws i w
      → number_named n w.kind w.name ≡ None → option_map (λ ks. xs ++ ks) (numbers_named n (drop i ws)) ≡ None
  unnamed_word ws i w xs within is named =
      let rest = drop (i + 1) ws in
      ap (option_map (λ ks. xs ++ ks)) (at_drop_more (numbers_named n) ws i w within ∙ ap (λ x. numbers_named n (x ∷ rest)) (sym is) ∙ unnamed_first w rest named)

  -- no words are left
  pub named_all : (ws : List PlacedWord) (i : ℕ) (xs : List ℕ) → length ws ≤ i → option_map (λ ks. xs ++ ks) (numbers_named n (drop i ws)) ≡ Some xs
  named_all ws i xs past =
      ap (option_map (λ ks. xs ++ ks)) (at_drop_all (numbers_named n) ws i past) ∙ ap (λ (s : List ℕ). Some s) (append-nil xs)

  -- the production that a text spells, by its words
  pub numbers_of_words : (text : List ℕ) (words : List PlacedWord) → ReadsAs text words → (o : Option (List ℕ)) → o ≡ numbers_spelled n words → AreNumbersOf n text o
  numbers_of_words text words reads None is = λ numbers spells.
      let same : spells.words ≡ words = reads_as_one text spells.words words spells.reads reads in
      let some : Some numbers ≡ None = sym spells.spelled ∙ ap (numbers_spelled n) same ∙ sym is in
      cc
  numbers_of_words text words reads (Some x) is = record { words = words; reads = reads; spelled = sym is }

  -- the same for a word of the code
  pub named_more_code : (words : List Word) (i : ℕ) (d : Word) (xs : List ℕ) (k : ℕ) → i < length words
      → number_named n (get_or words i d).kind (get_or words i d).name.now ≡ Some k
      → option_map (λ ks. xs ++ ks) (numbers_named n (drop i (map placed words))) ≡ option_map (λ ks. (xs ++ k ∷ []) ++ ks) (numbers_named n (drop (i + 1) (map placed words)))
  named_more_code words i d xs k within named =
      let w = placed (get_or words i d) in
      named_more_words (map placed words) i w xs k (omega (arith, length-map words placed)) (sym (get_or-map placed words i d w within)) named

  pub unnamed_word_code : (words : List Word) (i : ℕ) (d : Word) (xs : List ℕ) → i < length words
      → number_named n (get_or words i d).kind (get_or words i d).name.now ≡ None → option_map (λ ks. xs ++ ks) (numbers_named n (drop i (map placed words))) ≡ None
  unnamed_word_code words i d xs within named =
      let w = placed (get_or words i d) in
      unnamed_word (map placed words) i w xs (omega (arith, length-map words placed)) (sym (get_or-map placed words i d w within)) named
