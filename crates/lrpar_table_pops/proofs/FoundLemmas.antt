-- What is found of a state, as exits and reductions are added.
use Rattle.std.proofs.Common.{◌≡◌, ◌≢◌, ◌<◌, ◌+◌, ◌-◌, ◌∙◌, ◌⊎◌, ap, inl, inr, length, refl, subst, sym, arith, ℕ, suc, Bool, List, Option, Some, slice_get, take}
use Rattle.std.proofs.Math.ListN.{set}
use Rattle.std.proofs.lemmas.Bool.{cases_eq}
use Rattle.std.specs.Prelude.{IsTrue}
use Rattle.lrpar_grammar.specs.Grammar.{Grammar}
use Rattle.lrpar_grammar.specs.Tokens.{has}
use Rattle.lrpar_table_rows.specs.Table.{Table}
use Rattle.lrpar_table_pops.specs.Exits.{AddsOnly, HasExit, LeavesIn}
use Rattle.lrpar_table_pops.specs.Found.{IsFoundOf, IsReducedAt, LeadsFrom, PopsAt, StaysFound}
use Rattle.lrpar_table_pops.specs.Pops.{Control, Done, Dropping, Pops, drops, ends}
use Rattle.lrpar_table_pops.specs.Sets.{tokens_by}
use Rattle.lrpar_table_pops.specs.declared.exits.Exit.{Exit}
use Rattle.lrpar_table_pops.specs.declared.exits.Way.TheVariants.{Acceptance, Reduction}
use Rattle.lrpar_table_pops.specs.declared.found.Found.{Found}
use Rattle.lrpar_table_pops.proofs.ExitLemmas.{exits_before, exits_here}
use Rattle.lrpar_table_pops.proofs.SetLemmas.{tokens_kept, tokens_set}

module _ (g : Grammar) (table : Table) (s : ℕ) (at : Option ℕ) where
  -- exits more
  exits_stay : (P : Control → Type 0) (old new : List Exit) (reduced : List (List Bool)) → AddsOnly P old new → ((r : Control) → P r → PopsAt g table s at r)
      → IsFoundOf g table s at old reduced → IsFoundOf g table s at new reduced
  exits_stay P old new reduced adds pops found = record {
    by_exits = λ r h. elim (adds r h) as (λ _. PopsAt g table s at r) [ inl was ↦ found.by_exits r was | inr more ↦ pops r more ];
    by_reductions = found.by_reductions;
  }

  -- a run that has accepted
  pub accepted_stays : (old new : List Exit) (reduced : List (List Bool)) (token : ℕ) → AddsOnly (λ r. Done ≡ r) old new
      → ((q : Control) → q ≡ Done → LeadsFrom g table s at q) → IsFoundOf g table s at old reduced → IsFoundOf g table s at new reduced
  accepted_stays old new reduced token adds leads found =
      exits_stay (λ r. Done ≡ r) old new reduced adds (λ r is. subst (PopsAt g table s at) is (leads Done refl Done (ends s))) found

  -- a state that is dropped
  dropped : (p symbols t : ℕ) → symbols ≢ 0 → LeadsFrom g table s at (Dropping p symbols t) → PopsAt g table s at (Dropping p (symbols - 1) t)
  dropped p symbols t some leads =
      let one : suc (symbols - 1) ≡ symbols = omega (arith, some) in
      leads (Dropping p (symbols - 1) t) (subst (λ (n : ℕ). Pops g table (Dropping p n t) s (Dropping p (symbols - 1) t)) one (drops s p (symbols - 1) t))

  pub reduced_stays : (old new : List Exit) (reduced : List (List Bool)) (p symbols t : ℕ) → symbols ≢ 0 → AddsOnly (λ r. Dropping p (symbols - 1) t ≡ r) old new
      → ((q : Control) → q ≡ Dropping p symbols t → LeadsFrom g table s at q) → IsFoundOf g table s at old reduced → IsFoundOf g table s at new reduced
  reduced_stays old new reduced p symbols t some adds leads found =
      exits_stay (λ r. Dropping p (symbols - 1) t ≡ r) old new reduced adds
      (λ r is. subst (PopsAt g table s at) is (dropped p symbols t some (leads (Dropping p symbols t) refl))) found

  pub dropped_stays : (old new : List Exit) (reduced : List (List Bool)) (p symbols : ℕ) (tokens : List Bool) → symbols ≢ 0
      → AddsOnly (LeavesIn (Reduction p (symbols - 1)) tokens) old new
      → ((q : Control) → (t : ℕ) × IsTrue (has tokens t) × (q ≡ Dropping p symbols t) → LeadsFrom g table s at q)
      → IsFoundOf g table s at old reduced → IsFoundOf g table s at new reduced
  dropped_stays old new reduced p symbols tokens some adds leads found =
      exits_stay (LeavesIn (Reduction p (symbols - 1)) tokens) old new reduced adds
      (λ r leaves. subst (PopsAt g table s at) leaves.2 (dropped p symbols leaves.0 some (leads (Dropping p symbols leaves.0) (leaves.0, leaves.1, refl)))) found

  pub finished_stays : (old new : List Exit) (reduced : List (List Bool)) (tokens : List Bool) → AddsOnly (LeavesIn Acceptance tokens) old new
      → ((q : Control) → LeavesIn Acceptance tokens q → LeadsFrom g table s at q) → IsFoundOf g table s at old reduced → IsFoundOf g table s at new reduced
  finished_stays old new reduced tokens adds leads found =
      exits_stay (LeavesIn Acceptance tokens) old new reduced adds
      (λ r leaves. subst (PopsAt g table s at) leaves.2 (leads Done (leaves.0, leaves.1, refl) Done (ends s))) found

-- the tokens of a rule are replaced by those that were there, and others at which the rule is reduced
pub tokens_stay : (g : Grammar) (table : Table) (s : ℕ) (at : Option ℕ) (exits : List Exit) (sets : List (List Bool)) (rule : ℕ) (bits : List Bool) (Q : ℕ → Type 0)
    → rule < length sets → ((t : ℕ) → IsTrue (has bits t) → IsTrue (has (tokens_by sets rule) t) ⊎ Q t) → ((t : ℕ) → Q t → IsReducedAt g table s at rule t)
    → IsFoundOf g table s at exits sets → IsFoundOf g table s at exits (set sets rule bits)
tokens_stay g table s at exits sets rule bits Q low adds more found = record {
  by_exits = found.by_exits;
  by_reductions = λ r t is.
      elim (cases_eq r rule) as (λ _. IsReducedAt g table s at r t) [
        | inl here ↦
            let now : IsTrue (has bits t) = subst (λ (l : List Bool). IsTrue (has l t)) (ap (tokens_by (set sets rule bits)) here ∙ tokens_set sets rule bits low) is in
            let own = elim (adds t now) as (λ _. IsReducedAt g table s at rule t) [ inl was ↦ found.by_reductions rule t was | inr new ↦ more t new ] in
            subst (λ (k : ℕ). IsReducedAt g table s at k t) (sym here) own
        | inr other ↦ found.by_reductions r t (subst (λ (l : List Bool). IsTrue (has l t)) (tokens_kept sets rule r bits other) is)
      ];
}

-- one step after another
pub stays_more : (g : Grammar) (exits : List Exit) (place : ℕ) (exit : Exit) (first now next : Found) → slice_get exits place ≡ Some exit
    → StaysFound g (HasExit (take place exits)) first now → StaysFound g (LeavesIn exit.way exit.tokens) now next
    → StaysFound g (HasExit (take (place + 1) exits)) first next
stays_more g exits place exit first now next there before one table s at leads found =
    one table s at (λ q leaves. leads q (exits_here exits place exit q there leaves))
    (before table s at (λ q h. leads q (exits_before exits place q h)) found)
