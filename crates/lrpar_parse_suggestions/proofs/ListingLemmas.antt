-- Suggestions while they are listed: one change more is tried, and one place more.
use Rattle.std.proofs.Common.{◌≡◌, ◌<◌, ◌+◌, ◌*◌, ◌∙◌, ◌⊎◌, inl, inr, refl, sym, ap, subst, arith, ℕ, List, [], ◌∷◌, ◌++◌, get_or}
use Rattle.std.specs.Prelude.{Contains}
use Rattle.std.proofs.lemmas.Bool.{cases_lt}
use Rattle.std.proofs.lemmas.List.Elements.{Contains-append_left, Contains-get_or, Contains-push, Contains-push_cases}
use Rattle.std.proofs.lemmas.List.Quantifiers.{all_pairs_push}
use Rattle.lrpar_grammar.specs.Grammar.{Grammar, end_token}
use Rattle.lrpar_table_rows.specs.Table.{Table}
use Rattle.lrpar_parse_suggestions.specs.Changed.{PlainChange, PlainDelete, PlainInsert, PlainReplace, IsChangeAt, rank}
use Rattle.lrpar_parse_suggestions.specs.Listing.{IsAheadOf, IsFrom, ListsSuggestions, PutsInToken}
use Rattle.lrpar_parse_suggestions.specs.Suggestions.{PlainSuggestion, ComesBefore, IsSuggestion}
use Rattle.lrpar_parse_suggestions.proofs.ReachLemmas.{suggestion_one_way}

-- changes with the same number are the same
pub rank_one_way : (g : Grammar) (a b : PlainChange) → PutsInToken g a → PutsInToken g b → rank g a ≡ rank g b → a ≡ b
rank_one_way g PlainDelete PlainDelete x y same = refl
rank_one_way g PlainDelete (PlainInsert u) x y same = absurd (omega (arith, same))
rank_one_way g PlainDelete (PlainReplace u) x y same = absurd (omega (arith, same))
rank_one_way g (PlainInsert t) PlainDelete x y same = absurd (omega (arith, same))
rank_one_way g (PlainInsert t) (PlainInsert u) x y same = ap (λ (n : ℕ). PlainInsert n) (omega (arith, same))
rank_one_way g (PlainInsert t) (PlainReplace u) x y same = absurd (omega (arith, same, x, y))
rank_one_way g (PlainReplace t) PlainDelete x y same = absurd (omega (arith, same))
rank_one_way g (PlainReplace t) (PlainInsert u) x y same = absurd (omega (arith, same, x, y))
rank_one_way g (PlainReplace t) (PlainReplace u) x y same = ap (λ (n : ℕ). PlainReplace n) (omega (arith, same))

-- a change that can be made puts in a token that may come, and has a number below that of all changes
pub puts_in : (g : Grammar) (tokens : List ℕ) (p : ℕ) (change : PlainChange) → IsChangeAt g tokens p change → PutsInToken g change
puts_in g tokens p PlainDelete can = tt
puts_in g tokens p (PlainInsert t) can = can.1
puts_in g tokens p (PlainReplace t) can = can.1

pub rank_below : (g : Grammar) (change : PlainChange) → PutsInToken g change → rank g change < 2 * end_token g + 1
rank_below g PlainDelete puts = omega arith
rank_below g (PlainInsert t) puts = omega (arith, puts)
rank_below g (PlainReplace t) puts = omega (arith, puts)

module _ (g : Grammar) (table : Table) (tokens : List ℕ) (place : ℕ) where
  -- it is the same to have P and to have Q
  pub lists_alike : (P Q : PlainSuggestion → Type 0) (list : List PlainSuggestion) → ListsSuggestions g table tokens place P list
      → ((s : PlainSuggestion) → IsSuggestion g table tokens place s → P s → Q s)
      → ((s : PlainSuggestion) → IsSuggestion g table tokens place s → Q s → P s) → ListsSuggestions g table tokens place Q list
  lists_alike P Q list lists forth back = record {
    ordered = lists.ordered;
    exact = λ s. (
      (λ at. let known = (lists.exact s).0 at in (known.0, forth s known.0 known.1)),
      (λ known. (lists.exact s).1 (known.0, back s known.0 known.1)),
    );
  }

  -- nothing is listed, if no suggestion has P
  pub lists_none : (P : PlainSuggestion → Type 0) → ((s : PlainSuggestion) → IsSuggestion g table tokens place s → ¬ (P s))
      → ListsSuggestions g table tokens place P []
  lists_none P none = record {
    ordered = λ i j d low within. absurd (omega (arith, within));
    exact = λ s. (
      (λ at. absurd (nothing s at)),
      (λ known. absurd (none s known.0 known.1)),
    );
  }
    where
      nothing : (s : PlainSuggestion) → Contains [] s → ⊥
      nothing s at = absurd (omega (arith, at.1))

  module _ (p k : ℕ) (change : PlainChange) (number : rank g change ≡ k) (puts : PutsInToken g change) (list : List PlainSuggestion)
      (lists : ListsSuggestions g table tokens place (IsAheadOf g p k) list) where
    -- what is ahead of the next number is ahead of this one, or it is the suggestion of this change
    ahead_cases : (s : PlainSuggestion) → IsSuggestion g table tokens place s → IsAheadOf g p (k + 1) s
        → IsAheadOf g p k s ⊎ ((s.place ≡ p) × (s.change ≡ change))
    ahead_cases s is (inl later) = inl (inl later)
    ahead_cases s is (inr (there, low)) = elim (cases_lt (rank g s.change) k) as (λ _. IsAheadOf g p k s ⊎ ((s.place ≡ p) × (s.change ≡ change))) [
      | inl lower ↦ inl (inr (there, lower))
      | inr high ↦
          let same : rank g s.change ≡ rank g change = omega (arith, low, high, number) in
          inr (there, rank_one_way g s.change change (puts_in g tokens s.place s.change is.can) puts same)
    ]

    ahead_more : (s : PlainSuggestion) → IsAheadOf g p k s → IsAheadOf g p (k + 1) s
    ahead_more s (inl later) = inl later
    ahead_more s (inr (there, low)) = inr (there, omega (arith, low))

    -- the change doesn't help
    pub lists_without : ((s : PlainSuggestion) → s.place ≡ p → s.change ≡ change → ¬ (IsSuggestion g table tokens place s))
        → ListsSuggestions g table tokens place (IsAheadOf g p (k + 1)) list
    lists_without none =
        lists_alike (IsAheadOf g p k) (IsAheadOf g p (k + 1)) list lists (λ s is ahead. ahead_more s ahead)
        (λ s is ahead. elim (ahead_cases s is ahead) as (λ _. IsAheadOf g p k s) [
          | inl before ↦ before
          | inr this ↦ absurd (none s this.0 this.1 is)
        ])

    -- the suggestion to make it is listed
    pub lists_with : (found : PlainSuggestion) → found.place ≡ p → found.change ≡ change → IsSuggestion g table tokens place found
        → ListsSuggestions g table tokens place (IsAheadOf g p (k + 1)) (list ++ found ∷ [])
    lists_with found there made is = record {
      ordered = all_pairs_push (ComesBefore g) list found lists.ordered (λ i d within. before (get_or list i d) ((lists.exact (get_or list i d)).0 (Contains-get_or list i d within)).1);
      exact = λ s. (
        (λ at. elim (Contains-push_cases list found s at) as (λ _. IsSuggestion g table tokens place s × IsAheadOf g p (k + 1) s) [
          | inl listed ↦ let known = (lists.exact s).0 listed in (known.0, ahead_more s known.1)
          | inr same ↦ subst (λ (x : PlainSuggestion). IsSuggestion g table tokens place x × IsAheadOf g p (k + 1) x) same (is, here)
        ]),
        (λ known. elim (ahead_cases s known.0 known.1) as (λ _. Contains (list ++ found ∷ []) s) [
          | inl ahead ↦ Contains-append_left list (found ∷ []) s ((lists.exact s).1 (known.0, ahead))
          | inr this ↦
              let same = suggestion_one_way g table tokens place found s is known.0 (there ∙ sym this.0) (made ∙ sym this.1) in
              subst (λ (x : PlainSuggestion). Contains (list ++ found ∷ []) x) same (Contains-push list found)
        ]),
      );
    }
      where
        numbered : rank g found.change ≡ k
        numbered = ap (rank g) made ∙ number

        here : IsAheadOf g p (k + 1) found
        here = inr (there, omega (arith, numbered))

        before : (s : PlainSuggestion) → IsAheadOf g p k s → ComesBefore g s found
        before s (inl later) = inl (omega (arith, later, there))
        before s (inr (at, low)) = inr (at ∙ sym there, omega (arith, low, numbered))

  -- a place begins, and ends
  pub lists_begun : (p : ℕ) (list : List PlainSuggestion) → ListsSuggestions g table tokens place (IsFrom (p + 1)) list → ListsSuggestions g table tokens place (IsAheadOf g p 0) list
  lists_begun p list lists = lists_alike (IsFrom (p + 1)) (IsAheadOf g p 0) list lists (λ s is from. inl (omega (arith, from))) (λ s is ahead. after s ahead)
    where
      after : (s : PlainSuggestion) → IsAheadOf g p 0 s → IsFrom (p + 1) s
      after s (inl later) = omega (arith, later)
      after s (inr (there, low)) = absurd (omega (arith, low))

  pub lists_ended : (p : ℕ) (list : List PlainSuggestion) → ListsSuggestions g table tokens place (IsAheadOf g p (2 * end_token g + 1)) list
      → ListsSuggestions g table tokens place (IsFrom p) list
  lists_ended p list lists =
      lists_alike (IsAheadOf g p (2 * end_token g + 1)) (IsFrom p) list lists (λ s is ahead. from s ahead) (λ s is from. back s is from)
    where
      from : (s : PlainSuggestion) → IsAheadOf g p (2 * end_token g + 1) s → IsFrom p s
      from s (inl later) = omega (arith, later)
      from s (inr (there, low)) = omega (arith, there)

      back : (s : PlainSuggestion) → IsSuggestion g table tokens place s → IsFrom p s → IsAheadOf g p (2 * end_token g + 1) s
      back s is from = elim (cases_lt p s.place) as (λ _. IsAheadOf g p (2 * end_token g + 1) s) [
        | inl later ↦ inl later
        | inr low ↦ inr (omega (arith, from, low), rank_below g s.change (puts_in g tokens s.place s.change is.can))
      ]
