-- Lists of productions by their texts: what the texts spell is one thing, and a list with a fault is no listing.
use Rattle.std.proofs.Common.{◌≡◌, ◌≢◌, ◌<◌, ◌≤◌, ◌+◌, ℕ, zero, suc, List, [], ◌∷◌, ◌++◌, length, take, Option, Some, string_bytes, ap, refl, subst, sym, ◌∙◌, arith}
use Rattle.std.specs.List.{range_with_len}
use Rattle.std.proofs.lemmas.List.{length-map}
use Rattle.lrpar_grammar_words.proofs.WordsLemmas.{reads_as_one}
use Rattle.lrpar_grammar_reader.specs.Grammar.{Grammar, start_prod}
use Rattle.lrpar_grammar.specs.declared.grammar.spelled_fault.SpelledFault.{SpelledFault}
use Rattle.lrpar_grammar.specs.declared.grammar.spelled_fault.SpelledFault.TheVariants.{Unknown, Repeated, Missing, Memory}
use Rattle.lrpar_grammar.specs.Spelled.{IsListing, IsTextOf, NamedSymbols, SpellEach, SpellsNumbers, count_of, numbered_prods, named_symbols, numbers_at, numbers_of, numbers_spelled}
use Rattle.lrpar_grammar.specs.SpelledFaults.{IsMissingAt, IsRepeatedAt, IsSpelledFault, IsUnknownAt}
use Rattle.lrpar_grammar.proofs.CountLemmas.{count_before}

-- a text spells one production at most
pub spells_one : (n : NamedSymbols) (text x y : List ℕ) → SpellsNumbers n text x → SpellsNumbers n text y → x ≡ y
spells_one n text x y a b =
    let words : a.words ≡ b.words = reads_as_one text a.words b.words a.reads b.reads in
    let found : Some x ≡ Some y = sym a.spelled ∙ ap (numbers_spelled n) words ∙ b.spelled in
    cc

-- so do texts
pub spell_one : (n : NamedSymbols) (texts xs ys : List (List ℕ)) → SpellEach n texts xs → SpellEach n texts ys → xs ≡ ys
spell_one n [] [] [] a b = refl
spell_one n [] [] (y ∷ ys) a b = absurd b
spell_one n [] (x ∷ xs) ys a b = absurd a
spell_one n (text ∷ texts) [] ys a b = absurd a
spell_one n (text ∷ texts) (x ∷ xs) [] a b = absurd b
spell_one n (text ∷ texts) (x ∷ xs) (y ∷ ys) a b =
    let first : x ≡ y = spells_one n text x y a.0 b.0 in
    let rest : xs ≡ ys = spell_one n texts xs ys a.1 b.1 in
    cc

-- as many as there are texts
pub spell_len : (n : NamedSymbols) (texts xs : List (List ℕ)) → SpellEach n texts xs → length xs ≡ length texts
spell_len n [] [] a = refl
spell_len n [] (x ∷ xs) a = absurd a
spell_len n (text ∷ texts) [] a = absurd a
spell_len n (text ∷ texts) (x ∷ xs) a = ap suc (spell_len n texts xs a.1)

-- the first texts spell the first of the productions
pub spell_front : (n : NamedSymbols) (texts xs : List (List ℕ)) (i : ℕ) → SpellEach n texts xs → SpellEach n (take i texts) (take i xs)
spell_front n texts xs zero a = tt
spell_front n [] [] (suc i) a = tt
spell_front n [] (x ∷ xs) (suc i) a = absurd a
spell_front n (text ∷ texts) [] (suc i) a = absurd a
spell_front n (text ∷ texts) (x ∷ xs) (suc i) a = (a.0, spell_front n texts xs i a.1)

-- one of the texts
pub spell_at : (n : NamedSymbols) (texts xs : List (List ℕ)) (i : ℕ) → i < length texts → SpellEach n texts xs → SpellsNumbers n (numbers_at texts i) (numbers_at xs i)
spell_at n [] xs i within a = absurd (omega arith)
spell_at n (text ∷ texts) [] i within a = absurd a
spell_at n (text ∷ texts) (x ∷ xs) zero within a = a.0
spell_at n (text ∷ texts) (x ∷ xs) (suc i) within a = spell_at n texts xs i (omega arith) a.1

-- one more text
pub spell_push : (n : NamedSymbols) (texts xs : List (List ℕ)) (text x : List ℕ) → SpellEach n texts xs → SpellsNumbers n text x
    → SpellEach n (texts ++ text ∷ []) (xs ++ x ∷ [])
spell_push n [] [] text x a last = (last, tt)
spell_push n [] (y ∷ ys) text x a last = absurd a
spell_push n (t ∷ texts) [] text x a last = absurd a
spell_push n (t ∷ texts) (y ∷ ys) text x a last = (a.0, spell_push n texts ys text x a.1 last)

-- the numbers from a on
pub length-range : (a n : ℕ) → length (range_with_len a n) ≡ n
length-range a zero = refl
length-range a (suc n) = ap suc (length-range (a + 1) n)

-- the productions but the start production
pub listed_len : (g : Grammar) → length (numbered_prods g) ≡ start_prod g
listed_len g = length-map (range_with_len 0 (start_prod g)) (numbers_of g) ∙ length-range 0 (start_prod g)

module _ (g : Grammar) (texts : List (List ℕ)) (places : List (Option ℕ)) (list : IsListing g texts places) where
  -- the production of a text
  of_text : (t : ℕ) → t < length texts → (p : ℕ) × (p < length (numbered_prods g)) × IsTextOf (numbered_prods g) list.spelled p t
  of_text t within =
      let taken = list.each_text t within in
      let at : taken.prod < start_prod g = let below = taken.within in let len = listed_len g in omega arith in
      let goes = list.each_prod taken.prod at in
      let found : Some goes.place ≡ Some t = sym goes.at ∙ taken.at in
      let same : goes.place ≡ t = cc in
      (taken.prod, taken.within, subst (IsTextOf (numbered_prods g) list.spelled taken.prod) same goes.is)

  -- a list with a text that spells nothing is no listing
  unknown_refutes : (text : List ℕ) (place : ℕ) → IsUnknownAt (named_symbols g) (numbered_prods g) texts text place → ⊥
  unknown_refutes text place bad =
      let of = of_text place bad.within in
      let spells = spell_at (named_symbols g) texts list.spelled place bad.within list.spell in
      bad.unknown of.0 of.1 (subst (λ x. SpellsNumbers (named_symbols g) text x) of.2.spells (subst (λ x. SpellsNumbers (named_symbols g) x (numbers_at list.spelled place)) (sym bad.is) spells))

  -- nor is one with a text too many
  repeated_refutes : (text : List ℕ) (place : ℕ) → IsRepeatedAt (named_symbols g) (numbered_prods g) texts text place → ⊥
  repeated_refutes text place bad =
      let n = named_symbols g in
      let of = of_text place bad.within in
      let spells = subst (λ x. SpellsNumbers n x (numbers_at list.spelled place)) (sym bad.is) (spell_at n texts list.spelled place bad.within list.spell) in
      let is : numbers_at list.spelled place ≡ bad.numbers = spells_one n text (numbers_at list.spelled place) bad.numbers spells bad.spells in
      let front : bad.before.spelled ≡ take place list.spelled =
      spell_one n (take place texts) bad.before.spelled (take place list.spelled) bad.before.spell (spell_front n texts list.spelled place list.spell) in
      let prod : numbers_at (numbered_prods g) of.0 ≡ bad.numbers = sym of.2.spells ∙ is in
      let less = count_before bad.numbers (numbered_prods g) of.0 of.1 prod in
      let nth : count_of bad.numbers (take place list.spelled) ≡ count_of bad.numbers (take of.0 (numbered_prods g)) =
      subst (λ q. count_of q (take place list.spelled) ≡ count_of q (take of.0 (numbered_prods g))) prod of.2.nth in
      let full : count_of bad.numbers (numbered_prods g) ≤ count_of bad.numbers (take place list.spelled) = subst (λ s. count_of bad.numbers (numbered_prods g) ≤ count_of bad.numbers s) front bad.full in
      omega arith

  -- nor is one without a text for some production
  missing_refutes : (p : ℕ) → IsMissingAt (named_symbols g) (numbered_prods g) texts p → ⊥
  missing_refutes p bad =
      let same : bad.all.spelled ≡ list.spelled = spell_one (named_symbols g) texts bad.all.spelled list.spelled bad.all.spell list.spell in
      let at : p < start_prod g = let below = bad.within in let len = listed_len g in omega arith in
      let goes = list.each_prod p at in
      let less = count_before (numbers_at (numbered_prods g) p) list.spelled goes.place goes.is.within goes.is.spells in
      let nth = goes.is.nth in
      let few : count_of (numbers_at (numbered_prods g) p) list.spelled ≤ count_of (numbers_at (numbered_prods g) p) (take p (numbered_prods g)) =
      subst (λ s. count_of (numbers_at (numbered_prods g) p) s ≤ count_of (numbers_at (numbered_prods g) p) (take p (numbered_prods g))) same bad.few in
      omega arith

-- a list with a fault is no listing
pub fault_refutes : (g : Grammar) (texts : List (List ℕ)) (fault : SpelledFault) → IsSpelledFault g texts fault → fault ≢ Memory
    → (places : List (Option ℕ)) → IsListing g texts places → ⊥
fault_refutes g texts (Unknown text place) bad _ places list = unknown_refutes g texts places list (string_bytes text) place bad
fault_refutes g texts (Repeated text place) bad _ places list = repeated_refutes g texts places list (string_bytes text) place bad
fault_refutes g texts (Missing text) bad _ places list = missing_refutes g texts places list bad.0 bad.1
fault_refutes g texts Memory bad other places list = other refl
