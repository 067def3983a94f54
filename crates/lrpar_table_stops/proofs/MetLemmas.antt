-- One more token of a state at which a run looks.
use Rattle.std.proofs.Common.{◌≡◌, ◌<◌, ◌⊎◌, ◌∙◌, ◌||◌, ◌==◌, refl, sym, ap, subst, inl, inr, arith, ℕ, Bool, false, IsTrue, List, [], length, set}
use Rattle.std.proofs.lemmas.Bool.{cases_eq, eq-eqb, eqb-true, false≢true, or_cases, or_left, or_right}
use Rattle.std.proofs.lemmas.List.{get_or-set_other, get_or-set_same, length-set}
use Rattle.std.proofs.lemmas.List.Elements.{All-get_or, All-set}
use Rattle.lrpar_grammar.specs.Grammar.{Grammar}
use Rattle.lrpar_grammar.specs.Tokens.{PutsToken, has}
use Rattle.lrpar_grammar.proofs.TokenSetLemmas.{fewer_missing}
use Rattle.lrpar_table_first.specs.FirstRows.{row_at, total_missing}
use Rattle.lrpar_table_first.proofs.GrowthLemmas.{missing_set}
use Rattle.lrpar_table_rows.specs.Table.{Table}
use Rattle.lrpar_table_stops.specs.Met.{AreRight, is_met}
use Rattle.lrpar_table_stops.specs.ErrorStates.{LooksAt}

module _ (sets : List (List Bool)) (s t : ℕ) (bits : List Bool) (within : s < length sets) (room : length bits ≡ length (row_at sets s))
    (put : PutsToken (row_at sets s) bits t) where
  here : row_at (set sets s bits) s ≡ bits
  here = get_or-set_same sets s bits [] within

  there : (r : ℕ) → (r ≡ s → ⊥) → row_at (set sets s bits) r ≡ row_at sets r
  there r other = get_or-set_other sets s r bits [] other

  -- the token is met
  pub added : IsTrue (is_met (set sets s bits) s t)
  added = ap (λ row. has row t) here ∙ put t ∙ or_right (has (row_at sets s) t) (t == t) (eq-eqb t t refl)

  -- nothing else is that wasn't before
  met_before : (r u : ℕ) → IsTrue (is_met (set sets s bits) r u) → IsTrue (is_met sets r u) ⊎ ((r ≡ s) × (u ≡ t))
  met_before r u now =
      elim (cases_eq r s) [
        | inl same ↦
            let row : row_at (set sets s bits) r ≡ bits = ap (row_at (set sets s bits)) same ∙ here in
            let either : IsTrue (has (row_at sets s) u || u == t) = sym (put u) ∙ subst (λ row. IsTrue (has row u)) row now in
            elim (or_cases (has (row_at sets s) u) (u == t) either) [
              | inl before ↦ inl (subst (λ n. IsTrue (has (row_at sets n) u)) (sym same) before)
              | inr fresh ↦ inr (same, eqb-true u t fresh)
            ]
        | inr other ↦ inl (subst (λ row. IsTrue (has row u)) (there r other) now)
      ]

  -- the sets stay right, if a run can look at the token in the state
  pub right_more : (g : Grammar) (table : Table) → AreRight g table sets → LooksAt g table s t → AreRight g table (set sets s bits)
  right_more g table are looks = record {
    states = length-set sets s bits ∙ are.states;
    tokens = All-set (λ row. length row ≡ table.tokens) sets s bits (room ∙ All-get_or (λ row. length row ≡ table.tokens) sets s [] within are.tokens) are.tokens;
    met = λ r u now.
        elim (met_before r u now) as (λ _. LooksAt g table r u) [
          | inl before ↦ are.met r u before
          | inr new ↦ subst (λ n. LooksAt g table n u) (sym new.0) (subst (LooksAt g table s) (sym new.1) looks)
        ];
  }

  -- fewer tokens are missing, if it wasn't there
  pub fewer : is_met sets s t ≡ false → total_missing (set sets s bits) < total_missing sets
  fewer fresh =
      missing_set sets s bits within
      (fewer_missing (row_at sets s) bits (sym room) (λ u had. put u ∙ or_left (has (row_at sets s) u) (u == t) had)
      (λ same. false≢true (sym fresh ∙ ap (λ row. has row t) (same ∙ sym here) ∙ added)))

-- there is room for each token of the table in the set of each of its states
pub room_for : (g : Grammar) (table : Table) (sets : List (List Bool)) (s t : ℕ) → AreRight g table sets → s < length sets → t < table.tokens
    → t < length (row_at sets s)
room_for g table sets s t are within low =
    let wide = All-get_or (λ row. length row ≡ table.tokens) sets s [] within are.tokens in omega (arith, wide, low)
