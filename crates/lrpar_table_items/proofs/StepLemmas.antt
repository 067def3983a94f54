-- Rows of transitions, one symbol after the other.
use Rattle.std.proofs.Common.{◌≡◌, ◌≢◌, ◌<◌, ◌≤◌, ◌+◌, ◌∙◌, refl, sym, ap, subst, inl, inr, arith, ℕ, cond, List, [], ◌∷◌, ◌++◌, All, Some, None, nat_eq}
use Rattle.std.specs.Map.{keys_of, lookup}
use Rattle.std.proofs.lemmas.Bool.{cases_eq, cases_lt, eq-eqb, ne_eqb}
use Rattle.std.proofs.lemmas.List.{map-append}
use Rattle.std.proofs.lemmas.List.Elements.{All-head, All-nil, All-push, All-tail, All-weaker}
use Rattle.lrpar_grammar.specs.Grammar.{Grammar, GrammarSymbol, IsWellFormed, rules_len, tokens_len}
use Rattle.lrpar_table_items.specs.Cores.{CoreSet}
use Rattle.lrpar_table_first.specs.FirstRows.{IsSymbolBelow}
use Rattle.lrpar_table_items.proofs.SymbolLemmas.{symbol_at_below}
use Rattle.lrpar_table_items.specs.Kernels.{AreKept, GoesTo}
use Rattle.lrpar_table_items.specs.States.{AreSteps, AreStepsBelow}
use Rattle.lrpar_table_items.specs.Resolution.{AscendFrom}
use Rattle.lrpar_table_items.proofs.NumberLemmas.{goes_kept}

-- one more number, which is greater than all others
pub ascend_push : (ks : List ℕ) (a n : ℕ) → AscendFrom a ks → All (λ k. k < n) ks → a ≤ n → AscendFrom a (ks ++ n ∷ [])
ascend_push [] a n up below low = (low, tt)
ascend_push (k ∷ ks) a n up below low =
    let first = All-head (λ m. m < n) k ks below in (up.0, ascend_push ks (k + 1) n up.1 (All-tail (λ m. m < n) k ks below) (omega (arith, first)))

pub keys_push : (rows : List (ℕ × ℕ)) (row : ℕ × ℕ) → keys_of (rows ++ row ∷ []) ≡ keys_of rows ++ row.0 ∷ []
keys_push rows row = map-append (λ (r : ℕ × ℕ). r.0) rows (row ∷ [])

-- a look-up in a row with one more entry
pub lookup_past : (rows : List (ℕ × ℕ)) (n k : ℕ) → All (λ m. m < n) (keys_of rows) → n ≤ k → lookup (nat_eq k) rows ≡ None
lookup_past [] n k below past = refl
lookup_past (row ∷ rows) n k below past =
    let first = All-head (λ m. m < n) row.0 (keys_of rows) below in
    let other : k ≢ row.0 = omega (arith, first, past) in
    ap (λ b. cond b (Some row.1) (lookup (nat_eq k) rows)) (ne_eqb k row.0 other)
    ∙ lookup_past rows n k (All-tail (λ m. m < n) row.0 (keys_of rows) below) past

pub lookup_other : (rows : List (ℕ × ℕ)) (row : ℕ × ℕ) (k : ℕ) → k ≢ row.0 → lookup (nat_eq k) (rows ++ row ∷ []) ≡ lookup (nat_eq k) rows
lookup_other [] row k other = ap (λ b. cond b (Some row.1) None) (ne_eqb k row.0 other)
lookup_other (first ∷ rows) row k other = ap (λ found. cond (nat_eq k first.0) (Some first.1) found) (lookup_other rows row k other)

pub lookup_last : (rows : List (ℕ × ℕ)) (row : ℕ × ℕ) → All (λ m. m < row.0) (keys_of rows) → lookup (nat_eq row.0) (rows ++ row ∷ []) ≡ Some row.1
lookup_last [] row below = ap (λ b. cond b (Some row.1) None) (eq-eqb row.0 row.0 refl)
lookup_last (first ∷ rows) row below =
    let low = All-head (λ m. m < row.0) first.0 (keys_of rows) below in
    let other : row.0 ≢ first.0 = omega (arith, low) in
    ap (λ b. cond b (Some first.1) (lookup (nat_eq row.0) (rows ++ row ∷ []))) (ne_eqb row.0 first.0 other)
    ∙ lookup_last rows row (All-tail (λ m. m < row.0) first.0 (keys_of rows) below)

module _ (g : Grammar) (before after : List (List CoreSet)) (kept : AreKept before after) (cores : List CoreSet) (symbol : ℕ → GrammarSymbol)
    (rows : List (ℕ × ℕ)) (n : ℕ) (so_far : AreStepsBelow g before cores symbol rows n) where
  below_more : All (λ k. k < n + 1) (keys_of rows)
  below_more = All-weaker (λ k. k < n) (λ k. k < n + 1) (λ k low. omega (arith, low)) (keys_of rows) so_far.below

  -- one more symbol, with no transition, or one to a state
  pub step_none : GoesTo g after cores (symbol n) None → AreStepsBelow g after cores symbol rows (n + 1)
  step_none none = record {
    ascend = so_far.ascend;
    below = below_more;
    goes = λ k low.
        elim (cases_lt k n) [
          | inl early ↦ goes_kept g before after cores (symbol k) (lookup (nat_eq k) rows) kept (so_far.goes k early)
          | inr late ↦
              let at : n ≡ k = omega (arith, low, late) in
              subst (λ m. GoesTo g after cores (symbol m) (lookup (nat_eq m) rows)) at
              (subst (GoesTo g after cores (symbol n)) (sym (lookup_past rows n n so_far.below (omega arith))) none)
        ];
  }

  pub step_some : (more : List (ℕ × ℕ)) (next : ℕ) → GoesTo g after cores (symbol n) (Some next) → more ≡ rows ++ (n, next) ∷ []
      → AreStepsBelow g after cores symbol more (n + 1)
  step_some more next goes is =
      let row : ℕ × ℕ = (n, next) in
      let all = rows ++ row ∷ [] in
      let pushed : AreStepsBelow g after cores symbol all (n + 1) =
      record {
        ascend = subst (AscendFrom 0) (sym (keys_push rows row)) (ascend_push (keys_of rows) 0 n so_far.ascend so_far.below (omega arith));
        below = subst (All (λ k. k < n + 1)) (sym (keys_push rows row)) (All-push (λ k. k < n + 1) (keys_of rows) n below_more (omega arith));
        goes = λ k low.
            elim (cases_eq k n) [
              | inl same ↦
                  subst (λ m. GoesTo g after cores (symbol m) (lookup (nat_eq m) all)) (sym same)
                  (subst (GoesTo g after cores (symbol n)) (sym (lookup_last rows row so_far.below)) goes)
              | inr other ↦
                  let early : k < n = let apart : k ≢ n = other in omega (arith, low, apart) in
                  subst (GoesTo g after cores (symbol k)) (sym (lookup_other rows row k other))
                  (goes_kept g before after cores (symbol k) (lookup (nat_eq k) rows) kept (so_far.goes k early))
            ];
      } in
      subst (λ rs. AreStepsBelow g after cores symbol rs (n + 1)) (sym is) pushed

module _ (g : Grammar) (well : IsWellFormed g) where
  -- cores have no transition by a symbol past the grammar's last one
  pub all_steps : (kernels : List (List CoreSet)) (cores : List CoreSet) (symbol : ℕ → GrammarSymbol) (rows : List (ℕ × ℕ)) (n : ℕ)
      → ((k : ℕ) → IsSymbolBelow (rules_len g) (tokens_len g) (symbol k) → k < n) → AreStepsBelow g kernels cores symbol rows n
      → AreSteps g kernels cores symbol rows
  all_steps kernels cores symbol rows n known steps = record {
    ascend = steps.ascend;
    goes = λ k.
        elim (cases_lt k n) [
          | inl low ↦ steps.goes k low
          | inr past ↦
              let nowhere : GoesTo g kernels cores (symbol k) None =
              λ after_dot. let low = known k (symbol_at_below g well after_dot.0.prod after_dot.0.dot (symbol k) after_dot.2) in omega (arith, low, past) in
              subst (GoesTo g kernels cores (symbol k)) (sym (lookup_past rows n k steps.below past)) nowhere
        ];
  }

pub no_steps : (g : Grammar) (kernels : List (List CoreSet)) (cores : List CoreSet) (symbol : ℕ → GrammarSymbol) → AreStepsBelow g kernels cores symbol [] 0
no_steps g kernels cores symbol = record { ascend = tt; below = All-nil (λ k. k < 0); goes = λ k low. absurd (omega (arith, low)) }
