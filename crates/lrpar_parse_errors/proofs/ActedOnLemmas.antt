-- The stored entries of a state are its actions other than errors, so their tokens are those at which it has an action.
use Rattle.std.proofs.Common.{◌≡◌, ◌≢◌, ◌↔◌, ◌∙◌, sym, ap, subst, refl, arith, ℕ, List, [], length, map, Contains}
use Rattle.std.specs.List.{zip}
use Rattle.std.specs.List.Sorted.{IsStrictlyIncreasing}
use Rattle.std.specs.Map.{keys_of}
use Rattle.lrpar_table_rows.proofs.EntryLemmas.{keys_of-pairs}
use Rattle.lrpar_table_rows.proofs.ItemLemmas.{Contains-image, Contains-preimage}
use Rattle.lrpar_table_rows.specs.Table.{Fails, Table, TableAction, action_of}
use Rattle.lrpar_parse_errors.specs.ActedOn.{AreActedOn}

-- the tokens of the entries of a state
pub stored_tokens : {S V : Type 0} (number : S → ℕ) (value : V → TableAction) (table : Table) (s : ℕ) (ts : List S) (actions : List V) (es : List (ℕ × TableAction))
    → length actions ≡ length ts → map (λ e. (number e.0, value e.1)) (zip ts actions) ≡ es
    → ((t : ℕ) (action : TableAction) → Contains es (t, action) ↔ ((action_of table s t ≡ action) × (action ≢ Fails)))
    → IsStrictlyIncreasing (keys_of es) → AreActedOn table s (map number ts)
stored_tokens number value table s ts actions es paired are exact up =
    let keys : map number ts ≡ keys_of es = sym (keys_of-pairs number value ts actions paired) ∙ ap (λ (l : List (ℕ × TableAction)). keys_of l) are in
    record {
      ascending = subst IsStrictlyIncreasing (sym keys) up;
      exact = λ t. (
        λ there.
            let entry = Contains-preimage (λ (e : ℕ × TableAction). e.0) es t (subst (λ (l : List ℕ). Contains l t) keys there) in
            let stored = (exact entry.0.0 entry.0.1).0 entry.1 in
            λ none. stored.1 (sym stored.0 ∙ ap (λ (n : ℕ). action_of table s n) entry.2 ∙ none),
        λ acts.
            let there = (exact t (action_of table s t)).1 (refl, acts) in
            subst (λ (l : List ℕ). Contains l t) (sym keys) (Contains-image (λ (e : ℕ × TableAction). e.0) es (t, action_of table s t) there),
      );
    }

-- a state that fails at each token
pub no_tokens : (table : Table) (s : ℕ) → ((t : ℕ) → action_of table s t ≡ Fails) → AreActedOn table s []
no_tokens table s fails = record {
  ascending = λ k within. absurd (omega (arith, within));
  exact = λ t. (λ there. absurd (omega (arith, there.1)), λ acts. absurd (acts (fails t)));
}
