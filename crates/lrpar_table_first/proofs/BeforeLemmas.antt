-- First(w, a) for the tokens a of a set, computed from First(w, d) for the dummy lookahead d.
use Rattle.std.proofs.Common.{◌≡◌, ◌<◌, ◌+◌, ◌||◌, ◌&&◌, ◌↔◌, ◌⊎◌, ◌∙◌, ap, refl, sym, subst, inl, inr, arith, ℕ, Bool, true, false, List, [], ◌∷◌, All, length, nat_lt, IsTrue}
use Rattle.std.proofs.lemmas.Bool.{and_from, and_parts, lt-ltb, ltb-true, or_cases, or_left, or_right}
use Rattle.std.proofs.lemmas.List.{append-nil}
use Rattle.std.proofs.lemmas.List.Elements.{All-head, All-tail}
use Rattle.lrpar_grammar.specs.Grammar.{Grammar, GrammarSymbol, IsWellFormed, Nonterminal, Terminal, prods_len, rule_of, symbols_of}
use Rattle.lrpar_table_first.specs.First.{IsFirst, Empty, Rule}
use Rattle.lrpar_table_first.specs.FirstRows.{AreFirsts, IsFirstBefore, IsSymbolBelow, begins, dummy_lookahead}
use Rattle.lrpar_grammar.specs.Tokens.{has}
use Rattle.lrpar_table_first.proofs.FirstLemmas.{AreBelow, closed_begins, first_after, first_by_dummy, first_from_dummy, sound_begins}
use Rattle.lrpar_table_first.proofs.GrowthLemmas.{has_room, prods_below}

-- listed symbols are below the dummy lookahead
pub symbols_below : (rules dummy : ℕ) (w : List GrammarSymbol) → All (IsSymbolBelow rules dummy) w → AreBelow dummy w
symbols_below rules dummy [] all = tt
symbols_below rules dummy (Nonterminal r ∷ w) all = symbols_below rules dummy w (All-tail (IsSymbolBelow rules dummy) (Nonterminal r) w all)
symbols_below rules dummy (Terminal t ∷ w) all =
    (All-head (IsSymbolBelow rules dummy) (Terminal t) w all, symbols_below rules dummy w (All-tail (IsSymbolBelow rules dummy) (Terminal t) w all))

-- what a set has once the tokens of another below a bound were added to it
pub united : (old other new : List Bool) (n t : ℕ) → has new t ≡ (has old t || (nat_lt t n && has other t))
    → IsTrue (has new t) ↔ (IsTrue (has old t) ⊎ ((t < n) × IsTrue (has other t)))
united old other new n t put = (
  λ h. elim (or_cases (has old t) (nat_lt t n && has other t) (sym put ∙ h)) [
    | inl before ↦ inl before
    | inr fresh ↦ let parts = and_parts (nat_lt t n) (has other t) fresh in inr (ltb-true t n parts.0, parts.1)
  ],
  λ h. put ∙ elim h as (λ _. (has old t || (nat_lt t n && has other t)) ≡ true) [
    | inl before ↦ or_left (has old t) (nat_lt t n && has other t) before
    | inr fresh ↦ or_right (has old t) (nat_lt t n && has other t) (and_from (nat_lt t n) (has other t) (lt-ltb t n fresh.0) fresh.1)
  ],
)

module _ (g : Grammar) (well : IsWellFormed g) (rows : List (List Bool)) (firsts : AreFirsts g rows) (w : List GrammarSymbol)
    (free : AreBelow (dummy_lookahead g) w) where
  -- by exact sets, `begins` computes First(w, d)
  pub begins_is : (t : ℕ) → IsTrue (begins (dummy_lookahead g) rows w t) ↔ IsFirst g (dummy_lookahead g) w t
  begins_is t =
      let below = prods_below g well in
      let sound = λ (r s : ℕ). (firsts.exact r s).0 in
      let closed = λ (p : ℕ) (known : p < prods_len g) (s : ℕ) (h : IsTrue (begins (dummy_lookahead g) rows (symbols_of g p) s)).
      let first = sound_begins g (dummy_lookahead g) below rows sound (symbols_of g p) s h in
      (firsts.exact (rule_of g p) s).1
      (Rule p (rule_of g p) [] s known refl (subst (λ v. IsFirst g (dummy_lookahead g) v s) (sym (append-nil (symbols_of g p))) first)) in
      (λ h. sound_begins g (dummy_lookahead g) below rows sound w t h, λ first. closed_begins g (dummy_lookahead g) below rows closed w t first)

  -- what is in First(w, d) and is a token is in First(w, a) for a token a of the set
  pub before_from_dummy : (after : List Bool) (t : ℕ) → ((a : ℕ) × IsTrue (has after a)) → t < dummy_lookahead g → IsFirst g (dummy_lookahead g) w t
      → IsFirstBefore g after w t
  before_from_dummy after t some low first = (some.0, some.1, first_from_dummy g (dummy_lookahead g) (prods_below g well) some.0 w t low first)

  pub before_through : (after : List Bool) (t : ℕ) → IsTrue (has after t) → IsFirst g (dummy_lookahead g) w (dummy_lookahead g) → IsFirstBefore g after w t
  before_through after t in_after through =
      let all = first_after g (dummy_lookahead g) (prods_below g well) t w [] t (dummy_lookahead g) refl free through Empty in
      (t, in_after, subst (λ v. IsFirst g t v t) (append-nil w) all)

  -- conversely: t is in First(w, d), or w is nullable and t is in the set
  pub before_cases : (after : List Bool) (t : ℕ) → IsFirstBefore g after w t
      → ((t < dummy_lookahead g) × IsFirst g (dummy_lookahead g) w t) ⊎ (IsFirst g (dummy_lookahead g) w (dummy_lookahead g) × IsTrue (has after t))
  before_cases after t h =
      elim (first_by_dummy g (dummy_lookahead g) (prods_below g well) h.0 w t free h.2) [
        | inl own ↦ inl own
        | inr rest ↦ inr (rest.0, subst (λ x. IsTrue (has after x)) (sym rest.1) h.1)
      ]

  module _ (after none front old middle : List Bool) (n : ℕ) (some : (a : ℕ) × IsTrue (has after a)) (marked : n ≡ dummy_lookahead g)
      (cleared : (t : ℕ) → has none t ≡ false) (added : (t : ℕ) → has front t ≡ (has none t || begins n rows w t))
      (put_below : (t : ℕ) → has middle t ≡ (has old t || (nat_lt t n && has front t))) where
    -- the scratch set has what the symbols begin with
    begun : (t : ℕ) → has front t ≡ begins (dummy_lookahead g) rows w t
    begun t = added t ∙ ap (λ b. b || begins n rows w t) (cleared t) ∙ ap (λ k. begins k rows w t) marked

    -- its tokens were added
    put : (t : ℕ) → has middle t ≡ (has old t || (nat_lt t (dummy_lookahead g) && has front t))
    put t = put_below t ∙ ap (λ k. has old t || (nat_lt t k && has front t)) marked

    -- if the symbols aren't nullable, what they begin with is all
    pub added_before : has front n ≡ false
        → (t : ℕ) → IsTrue (has middle t) ↔ (IsTrue (has old t) ⊎ IsFirstBefore g after w t)
    added_before none_left t =
        let ends : has front (dummy_lookahead g) ≡ false = ap (has front) (sym marked) ∙ none_left in
        let parts = united old front middle (dummy_lookahead g) t (put t) in (
          λ h. elim (parts.0 h) [
            | inl before ↦ inl before
            | inr fresh ↦ inr (before_from_dummy after t some fresh.0 ((begins_is t).0 (sym (begun t) ∙ fresh.1)))
          ],
          λ h. elim h [
            | inl before ↦ parts.1 (inl before)
            | inr first ↦
                elim (before_cases after t first) [
                  | inl own ↦ parts.1 (inr (own.0, begun t ∙ (begins_is t).1 own.1))
                  | inr rest ↦ let through = begun (dummy_lookahead g) ∙ (begins_is (dummy_lookahead g)).1 rest.0 in absurd cc
                ]
          ],
        )

    -- if they are nullable, the set's tokens are added, too
    pub added_through : (new : List Bool) → length after ≡ dummy_lookahead g + 1 → has front n ≡ true
        → ((t : ℕ) → has new t ≡ (has middle t || (nat_lt t (n + 1) && has after t)))
        → (t : ℕ) → IsTrue (has new t) ↔ (IsTrue (has old t) ⊎ IsFirstBefore g after w t)
    added_through new wide left more_below t =
        let through : has front (dummy_lookahead g) ≡ true = ap (has front) (sym marked) ∙ left in
        let parts = united old front middle (dummy_lookahead g) t (put t) in
        let all = united middle after new (dummy_lookahead g + 1) t (more_below t ∙ ap (λ k. has middle t || (nat_lt t (k + 1) && has after t)) marked) in
        let nothing = (begins_is (dummy_lookahead g)).0 (sym (begun (dummy_lookahead g)) ∙ through) in (
          λ h. elim (all.0 h) [
            | inl early ↦
                elim (parts.0 early) [
                  | inl before ↦ inl before
                  | inr fresh ↦ inr (before_from_dummy after t some fresh.0 ((begins_is t).0 (sym (begun t) ∙ fresh.1)))
                ]
            | inr late ↦ inr (before_through after t late.1 nothing)
          ],
          λ h. elim h [
            | inl before ↦ all.1 (inl (parts.1 (inl before)))
            | inr first ↦
                elim (before_cases after t first) [
                  | inl own ↦ all.1 (inl (parts.1 (inr (own.0, begun t ∙ (begins_is t).1 own.1))))
                  | inr rest ↦ let low = has_room after t rest.1 in all.1 (inr (omega (arith, low, wide), rest.1))
                ]
          ],
        )
