-- Sets in a list, emptied one by one.
use Rattle.std.proofs.Common.{◌≡◌, ◌<◌, ◌+◌, ◌∙◌, sym, ap, subst, inl, inr, arith, ℕ, Bool, false, List, [], get_or, length, map, set}
use Rattle.std.proofs.Math.Seq.{map-set_same}
use Rattle.std.proofs.lemmas.Bool.{cases_eq}
use Rattle.std.proofs.lemmas.List.{get_or-set_other, get_or-set_same}
use Rattle.lrpar_table_first.specs.FirstRows.{row_at, rows_of}
use Rattle.lrpar_grammar.specs.Tokens.{has}
use Rattle.lrpar_grammar.specs.declared.token_set.TokenSet.{TokenSet}
use Rattle.lrpar_table_first.proofs.GrowthLemmas.{row_in, rows-set}

-- after one more set, all sets so far are empty
pub cleared_more : (sets : List TokenSet) (i : ℕ) (new : TokenSet) → i < length sets → ((t : ℕ) → has new t ≡ false)
    → ((r t : ℕ) → r < i → has (row_at (rows_of sets) r) t ≡ false)
    → (r t : ℕ) → r < i + 1 → has (row_at (rows_of (set sets i new)) r) t ≡ false
cleared_more sets i new within none before r t low =
    let rows = rows_of sets in
    let inside : i < length rows = within in
    subst (λ x. has (row_at x r) t ≡ false) (sym (rows-set sets i new))
    (elim (cases_eq r i) as (λ _. has (row_at (set rows i new) r) t ≡ false) [
      | inl same ↦ ap (λ n. has (row_at (set rows i new) n) t) same ∙ ap (λ b. has b t) (get_or-set_same rows i new [] inside) ∙ none t
      | inr other ↦ ap (λ b. has b t) (get_or-set_other rows i r new [] other) ∙ before r t (omega (arith, low, other))
    ])

pub rooms_kept : (sets : List TokenSet) (i : ℕ) (d new : TokenSet) → i < length sets → length new ≡ length (get_or sets i d)
    → map (λ row. length row) (rows_of (set sets i new)) ≡ map (λ row. length row) (rows_of sets)
rooms_kept sets i d new within wide =
    ap (map (λ row. length row)) (rows-set sets i new)
    ∙ map-set_same (λ (row : List Bool). length row) (rows_of sets) i new [] (wide ∙ ap length (row_in sets i d within))
