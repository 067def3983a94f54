-- The numbers of names, as a list of words grows.
use Rattle.std.proofs.Common.{◌≡◌, ◌<◌, ◌+◌, ℕ, suc, Bool, true, false, cond, List, [], ◌∷◌, ◌++◌, length, map, take, get_or, Option, Some, None, option_map, bytes_eq, nat_cmp, refl, ap, sym, subst, ◌∙◌, arith, Bor}
use Rattle.std.specs.Option.{is_some}
use Rattle.std.specs.Map.{update}
use Rattle.std.proofs.lemmas.Slice.Eq.{bytes_eq-Decides}
use Rattle.std.proofs.lemmas.List.{get_or-map, length-map}
use Rattle.std.proofs.lemmas.List.Sums.{fold_more}
use Rattle.lrpar_grammar_words.specs.declared.words.Word.{Word}
use Rattle.lrpar_grammar_words.specs.Words.{PlacedWord, placed}
use Rattle.std.specs.BTreeMap.{BTreeMap, get_by}
use Rattle.std.specs.Cmp.Lexicographic.{slice_cmp}
use Rattle.std.proofs.lemmas.Bool.{false_from_ne_true, false≢true}
use Rattle.lrpar_grammar_reader.specs.Names.{AreNumbers, first_of_each, number_of, with_name}

-- a step to the last place
last_step : (b : Bool) (r s : Option ℕ) (n : ℕ) → ◌≡◌ {A = Option ℕ} (cond b (Some 0) (option_map (λ k. k + 1) r)) None → (◌≡◌ {A = Option ℕ} r None → s ≡ Some n)
    → cond b (Some 0) (option_map (λ k. k + 1) s) ≡ Some (suc n)
last_step true r s n new step = absurd (cc)
last_step false None s n new step = let same : n + 1 ≡ suc n = omega arith in ap (option_map (λ k. k + 1)) (step refl) ∙ ap (λ k. Some k) same
last_step false (Some k) s n new step = absurd (cc)

-- a new name has the last number
pub number_of_last : (ws : List PlacedWord) (w : PlacedWord) (name : List ℕ) → bytes_eq name w.name ≡ true → ◌≡◌ {A = Option ℕ} (number_of name ws) None
    → number_of name (ws ++ w ∷ []) ≡ Some (length ws)
number_of_last [] w name same new = ap (λ b. cond b (Some 0) None) same
number_of_last (x ∷ ws) w name same new =
    last_step (bytes_eq name x.name) (number_of name ws) (number_of name (ws ++ w ∷ [])) (length ws) new (number_of_last ws w name same)

-- any other name keeps its number
pub number_of_other : (ws : List PlacedWord) (w : PlacedWord) (name : List ℕ) → bytes_eq name w.name ≡ false
    → number_of name (ws ++ w ∷ []) ≡ number_of name ws
number_of_other [] w name other = ap (λ b. cond b (Some 0) None) other
number_of_other (x ∷ ws) w name other = ap (λ r. cond (bytes_eq name x.name) (Some 0) (option_map (λ n. n + 1) r)) (number_of_other ws w name other)

-- the same, by whether the name is the new one
push_cases : (ws : List PlacedWord) (w : PlacedWord) (q : List ℕ) → ◌≡◌ {A = Option ℕ} (number_of w.name ws) None → (b : Bool) → bytes_eq w.name q ≡ b
    → cond b (Some (length ws)) (number_of q ws) ≡ number_of q (ws ++ w ∷ [])
push_cases ws w q new true is =
    let same : w.name ≡ q = (bytes_eq-Decides w.name q).0 is in
    sym (subst (λ name. number_of name (ws ++ w ∷ []) ≡ Some (length ws)) same (number_of_last ws w w.name ((bytes_eq-Decides w.name w.name).1 refl) new))
push_cases ws w q new false is =
    sym (number_of_other ws w q (false_from_ne_true (bytes_eq q w.name) (λ same. false≢true (sym is ∙ (bytes_eq-Decides w.name q).1 (sym ((bytes_eq-Decides q w.name).0 same))))))

-- the numbers of all names, after a new one is appended
number_of_push : (ws : List PlacedWord) (w : PlacedWord) (q : List ℕ) → ◌≡◌ {A = Option ℕ} (number_of w.name ws) None
    → cond (bytes_eq w.name q) (Some (length ws)) (number_of q ws) ≡ number_of q (ws ++ w ∷ [])
number_of_push ws w q new = push_cases ws w q new (bytes_eq w.name q) refl

-- the numbers, after a new name is put into the map
pub numbers_push : (m n : BTreeMap (Bor (List ℕ)) ℕ) (ws : List PlacedWord) (w : PlacedWord) → AreNumbers m ws → ◌≡◌ {A = Option ℕ} (number_of w.name ws) None
    → ((q : List ℕ) → get_by (λ k. slice_cmp nat_cmp q k.now) n ≡ update bytes_eq (λ ds. get_by (λ k. slice_cmp nat_cmp ds k.now) m) w.name (Some (length ws)) q)
    → AreNumbers n (ws ++ w ∷ [])
numbers_push m n ws w numbers new put = λ q. put q ∙ ap (cond (bytes_eq w.name q) (Some (length ws))) (numbers q) ∙ number_of_push ws w q new

-- the words with distinct names among the first words, and one more
pub first_more : (ws : List PlacedWord) (i : ℕ) (d : PlacedWord) → i < length ws → first_of_each (take (i + 1) ws) ≡ with_name (first_of_each (take i ws)) (get_or ws i d)
unfolding first_of_each
first_more ws i d within = fold_more with_name [] ws i d within

-- the same for words of the code
pub first_more_placed : (words : List Word) (i : ℕ) (d : Word) → i < length words
    → with_name (first_of_each (take i (map placed words))) (placed (get_or words i d)) ≡ first_of_each (take (i + 1) (map placed words))
first_more_placed words i d within =
    let ws = map placed words in
    sym (first_more ws i (placed d) (omega (arith, length-map words placed)) ∙ ap (with_name (first_of_each (take i ws))) (get_or-map placed words i d (placed d) within))

-- a name that isn't found has no number
pub not_found : (r : Option ℕ) → is_some r ≡ false → ◌≡◌ {A = Option ℕ} r None
not_found None is = refl
not_found (Some n) is = absurd (cc)

-- a number found in the rest
within_step : (b : Bool) (r : Option ℕ) (n len : ℕ) → cond b (Some 0) (option_map (λ k. k + 1) r) ≡ Some n → ((k : ℕ) → r ≡ Some k → k < len) → n < suc len
within_step true r n len is rest = let same : 0 ≡ n = cc in omega arith
within_step false None n len is rest = absurd (cc)
within_step false (Some k) n len is rest = let same : k + 1 ≡ n = cc in let below : k < len = rest k refl in omega arith

-- a name's number is the place of a word
pub number_within : (ws : List PlacedWord) (name : List ℕ) (n : ℕ) → number_of name ws ≡ Some n → n < length ws
number_within [] name n is = absurd (cc)
number_within (w ∷ ws) name n is = within_step (bytes_eq name w.name) (number_of name ws) n (length ws) is (number_within ws name)
