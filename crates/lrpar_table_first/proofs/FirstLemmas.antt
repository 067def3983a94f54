-- FIRST sets of lists of symbols. The sets of the rules are computed with a dummy lookahead, a number that no token has. What is in
-- them is in the FIRST sets (soundness), and once they are closed, all that is in the FIRST sets is in them (completeness). For any
-- other token as lookahead, it replaces the dummy lookahead.
use Rattle.std.proofs.Common.{◌≡◌, ◌<◌, ◌&&◌, ◌⊎◌, refl, sym, subst, inl, inr, arith, ℕ, Bool, List, [], ◌∷◌, ◌++◌, nat_lt, IsTrue}
use Rattle.std.proofs.lemmas.Bool.{and_from, and_parts, eqb-true, eq-eqb, lt-ltb, ltb-true, or_cases, or_left, or_right}
use Rattle.std.proofs.lemmas.List.{append_assoc}
use Rattle.lrpar_grammar.specs.Grammar.{Grammar, GrammarSymbol, Nonterminal, Terminal, prods_len, rule_of, symbols_of}
use Rattle.lrpar_table_first.specs.First.{IsFirst, Empty, Token, Rule}
use Rattle.lrpar_table_first.specs.FirstRows.{begins, row_at}
use Rattle.lrpar_grammar.specs.Tokens.{has}

-- each token of the symbols is below the dummy lookahead
abbrev pub AreBelow : ℕ → List GrammarSymbol → Type 0
AreBelow dummy [] = Unit {0}
AreBelow dummy (Terminal t ∷ w) = (t < dummy) × AreBelow dummy w
AreBelow dummy (Nonterminal r ∷ w) = AreBelow dummy w

pub AreBelow-append : (dummy : ℕ) (u w : List GrammarSymbol) → AreBelow dummy u → AreBelow dummy w → AreBelow dummy (u ++ w)
AreBelow-append dummy [] w left right = right
AreBelow-append dummy (Terminal t ∷ u) w left right = (left.0, AreBelow-append dummy u w left.1 right)
AreBelow-append dummy (Nonterminal r ∷ u) w left right = AreBelow-append dummy u w left right

-- what a list that starts with a rule begins with: the tokens of the rule's set; and, if the set has the dummy lookahead, what the
-- rest begins with
pub begins_cases : (dummy : ℕ) (rows : List (List Bool)) (r : ℕ) (w : List GrammarSymbol) (t : ℕ) → IsTrue (begins dummy rows (Nonterminal r ∷ w) t)
    → ((t < dummy) × IsTrue (has (row_at rows r) t)) ⊎ (IsTrue (has (row_at rows r) dummy) × IsTrue (begins dummy rows w t))
begins_cases dummy rows r w t h =
    let own = has (row_at rows r) t in
    let through = has (row_at rows r) dummy in
    let rest = begins dummy rows w t in
    elim (or_cases (nat_lt t dummy && own) (through && rest) h) [
      | inl here ↦ let parts = and_parts (nat_lt t dummy) own here in inl (ltb-true t dummy parts.0, parts.1)
      | inr later ↦ inr (and_parts through rest later)
    ]

begins_own : (dummy : ℕ) (rows : List (List Bool)) (r : ℕ) (w : List GrammarSymbol) (t : ℕ) → t < dummy → IsTrue (has (row_at rows r) t)
    → IsTrue (begins dummy rows (Nonterminal r ∷ w) t)
begins_own dummy rows r w t low h =
    let own = has (row_at rows r) t in
    or_left (nat_lt t dummy && own) (has (row_at rows r) dummy && begins dummy rows w t) (and_from (nat_lt t dummy) own (lt-ltb t dummy low) h)

begins_rest : (dummy : ℕ) (rows : List (List Bool)) (r : ℕ) (w : List GrammarSymbol) (t : ℕ) → IsTrue (has (row_at rows r) dummy)
    → IsTrue (begins dummy rows w t) → IsTrue (begins dummy rows (Nonterminal r ∷ w) t)
begins_rest dummy rows r w t through h =
    or_right (nat_lt t dummy && has (row_at rows r) t) (has (row_at rows r) dummy && begins dummy rows w t)
    (and_from (has (row_at rows r) dummy) (begins dummy rows w t) through h)

module _ (g : Grammar) (dummy : ℕ) (below : (p : ℕ) → p < prods_len g → AreBelow dummy (symbols_of g p)) where
  -- First(u, d) without d is in First(u w, d)
  pub first_of_prefix : (u w : List GrammarSymbol) (t : ℕ) → t < dummy → IsFirst g dummy u t → IsFirst g dummy (u ++ w) t
  first_of_prefix u w t low Empty = absurd (omega (arith, low))
  first_of_prefix u w t low (Token s v) = Token s (v ++ w)
  first_of_prefix u w t low (Rule p r v s known by h) =
      Rule p r (v ++ w) s known by (subst (λ x. IsFirst g dummy x s) (append_assoc (symbols_of g p) v w) (first_of_prefix (symbols_of g p ++ v) w s low h))

  -- if u is nullable, First(w, a) is in First(u w, a)
  pub first_after : (a : ℕ) (u w : List GrammarSymbol) (t m : ℕ) → m ≡ dummy → AreBelow dummy u → IsFirst g dummy u m → IsFirst g a w t → IsFirst g a (u ++ w) t
  first_after a u w t m is free Empty rest = rest
  first_after a u w t m is free (Token s v) rest = absurd (omega (arith, free.0, is))
  first_after a u w t m is free (Rule p r v s known by h) rest =
      Rule p r (v ++ w) t known by (subst (λ x. IsFirst g a x t) (append_assoc (symbols_of g p) v w)
      (first_after a (symbols_of g p ++ v) w t s is (AreBelow-append dummy (symbols_of g p) v (below p known) free) h rest))

  -- soundness: if the sets have nothing but the FIRST sets, so has what `begins` computes from them
  pub sound_begins : (rows : List (List Bool)) → ((r t : ℕ) → IsTrue (has (row_at rows r) t) → IsFirst g dummy (Nonterminal r ∷ []) t)
      → (w : List GrammarSymbol) (t : ℕ) → IsTrue (begins dummy rows w t) → IsFirst g dummy w t
  sound_begins rows sound [] t h = subst (λ x. IsFirst g dummy [] x) (sym (eqb-true t dummy h)) Empty
  sound_begins rows sound (Terminal s ∷ w) t h = subst (λ x. IsFirst g dummy (Terminal s ∷ w) x) (sym (eqb-true t s h)) (Token s w)
  sound_begins rows sound (Nonterminal r ∷ w) t h =
      elim (begins_cases dummy rows r w t h) [
        | inl own ↦ first_of_prefix (Nonterminal r ∷ []) w t own.0 (sound r t own.1)
        | inr rest ↦ first_after dummy (Nonterminal r ∷ []) w t dummy refl tt (sound r dummy rest.0) (sound_begins rows sound w t rest.1)
      ]

  -- what two lists of symbols begin with is what the first does, or what the second does if the first is nullable
  begins_parts : (rows : List (List Bool)) (u w : List GrammarSymbol) (t : ℕ) → AreBelow dummy u → IsTrue (begins dummy rows (u ++ w) t)
      → ((t < dummy) × IsTrue (begins dummy rows u t)) ⊎ (IsTrue (begins dummy rows u dummy) × IsTrue (begins dummy rows w t))
  begins_parts rows [] w t free h = inr (eq-eqb dummy dummy refl, h)
  begins_parts rows (Terminal s ∷ u) w t free h = let same = eqb-true t s h in inl (omega (arith, same, free.0), h)
  begins_parts rows (Nonterminal r ∷ u) w t free h =
      elim (begins_cases dummy rows r (u ++ w) t h) [
        | inl own ↦ inl (own.0, begins_own dummy rows r u t own.0 own.1)
        | inr rest ↦
            elim (begins_parts rows u w t free rest.1) [
              | inl early ↦ inl (early.0, begins_rest dummy rows r u t rest.0 early.1)
              | inr late ↦ inr (begins_rest dummy rows r u dummy rest.0 late.0, late.1)
            ]
      ]

  -- completeness: if the sets are closed, `begins` computes all of First(w, d) from them
  pub closed_begins : (rows : List (List Bool))
      → ((p : ℕ) → p < prods_len g → (t : ℕ) → IsTrue (begins dummy rows (symbols_of g p) t) → IsTrue (has (row_at rows (rule_of g p)) t))
      → (w : List GrammarSymbol) (t : ℕ) → IsFirst g dummy w t → IsTrue (begins dummy rows w t)
  closed_begins rows closed w t Empty = eq-eqb dummy dummy refl
  closed_begins rows closed w t (Token s v) = eq-eqb s s refl
  closed_begins rows closed w t (Rule p r v s known by h) =
      let inside = closed_begins rows closed (symbols_of g p ++ v) s h in
      let has_row = λ (x : ℕ) (at : IsTrue (has (row_at rows (rule_of g p)) x)). subst (λ y. IsTrue (has (row_at rows y) x)) by at in
      elim (begins_parts rows (symbols_of g p) v s (below p known) inside) [
        | inl early ↦ begins_own dummy rows r v s early.0 (has_row s (closed p known s early.1))
        | inr late ↦ begins_rest dummy rows r v s (has_row dummy (closed p known dummy late.0)) late.1
      ]

  -- a token of First(w, d) is in First(w, a)
  pub first_from_dummy : (a : ℕ) (w : List GrammarSymbol) (t : ℕ) → t < dummy → IsFirst g dummy w t → IsFirst g a w t
  first_from_dummy a w t low Empty = absurd (omega (arith, low))
  first_from_dummy a w t low (Token s v) = Token s v
  first_from_dummy a w t low (Rule p r v s known by h) = Rule p r v s known by (first_from_dummy a (symbols_of g p ++ v) s low h)

  -- conversely: t is a token of First(w, d), or w is nullable and t is a
  pub first_by_dummy : (a : ℕ) (w : List GrammarSymbol) (t : ℕ) → AreBelow dummy w → IsFirst g a w t
      → ((t < dummy) × IsFirst g dummy w t) ⊎ (IsFirst g dummy w dummy × (t ≡ a))
  first_by_dummy a w t free Empty = inr (Empty, refl)
  first_by_dummy a w t free (Token s v) = inl (free.0, Token s v)
  first_by_dummy a w t free (Rule p r v s known by h) =
      elim (first_by_dummy a (symbols_of g p ++ v) s (AreBelow-append dummy (symbols_of g p) v (below p known) free) h) [
        | inl own ↦ inl (own.0, Rule p r v s known by own.1)
        | inr rest ↦ inr (Rule p r v dummy known by rest.0, rest.1)
      ]
