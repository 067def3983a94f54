-- Rows of given transitions, one symbol after the other.
use Rattle.std.proofs.Common.{Vec, ◌≡◌, ◌≢◌, ◌<◌, ◌+◌, ◌∙◌, sym, subst, inl, inr, arith, ℕ, List, [], ◌∷◌, ◌++◌, All, Option, Some, None, length, map, nat_eq, slice_index_or}
use Rattle.std.specs.Map.{keys_of, lookup}
use Rattle.std.proofs.lemmas.Bool.{cases_eq, cases_lt}
use Rattle.std.proofs.lemmas.List.{length-map}
use Rattle.std.proofs.lemmas.List.Elements.{All-nil, All-push, All-weaker}
use Rattle.std.proofs.lemmas.Option.{none-some}
use Rattle.lrpar_grammar.specs.Grammar.{Grammar, GrammarSymbol}
use Rattle.lrpar_table_items.specs.Cores.{CoreSet, core_set}
use Rattle.lrpar_table_items.specs.Next.{AreNext, kernel_at, kernel_rows, next_kernel}
use Rattle.lrpar_table_items.specs.Resolution.{AscendFrom}
use Rattle.lrpar_table_items.specs.declared.cores.CoreItems.{CoreItems}
use Rattle.lrpar_table_items.proofs.StepLemmas.{ascend_push, keys_push, lookup_last, lookup_other, lookup_past}
use Rattle.lrpar_table_merge.specs.MergedSteps.{AreGivenSteps, FitsNext}

module _ (kernels : List (List CoreSet)) (next : ℕ → List CoreSet) (given : ℕ → Option ℕ) where
  pub no_steps : AreGivenSteps kernels next given [] 0
  no_steps = record {
    ascend = tt;
    below = All-nil (λ k. k < 0);
    same = λ k low. absurd (omega (arith, low));
    fit = λ k low. absurd (omega (arith, low));
  }

  module _ (rows : List (ℕ × ℕ)) (n : ℕ) (so_far : AreGivenSteps kernels next given rows n) where
    -- only symbols below n have transitions
    pub key_below : (k to : ℕ) → lookup (nat_eq k) rows ≡ Some to → k < n
    key_below k to is =
        elim (cases_lt k n) [
          | inl low ↦ low
          | inr past ↦ absurd (none-some to (sym (lookup_past rows n k so_far.below past) ∙ is))
        ]

    -- the kernels of the gotos may be told otherwise
    pub same_next : (other : ℕ → List CoreSet) → ((k : ℕ) → k < n → next k ≡ other k) → AreGivenSteps kernels other given rows n
    same_next other is = record {
      ascend = so_far.ascend;
      below = so_far.below;
      same = so_far.same;
      fit = λ k low. subst (λ cores. FitsNext kernels cores (given k)) (is k low) (so_far.fit k low);
    }

    module _ (fits : FitsNext kernels (next n) (given n)) where
      fit_more : (k : ℕ) → k < n + 1 → FitsNext kernels (next k) (given k)
      fit_more k low =
          elim (cases_lt k n) [
            | inl early ↦ so_far.fit k early
            | inr late ↦
                let at : n ≡ k = omega (arith, low, late) in subst (λ m. FitsNext kernels (next m) (given m)) at fits
          ]

      below_more : All (λ k. k < n + 1) (keys_of rows)
      below_more = All-weaker (λ k. k < n) (λ k. k < n + 1) (λ k low. omega (arith, low)) (keys_of rows) so_far.below

      -- one more symbol, with no transition, or one to a state
      pub step_none : given n ≡ None → AreGivenSteps kernels next given rows (n + 1)
      step_none none = record {
        ascend = so_far.ascend;
        below = below_more;
        same = λ k low.
            elim (cases_lt k n) [
              | inl early ↦ so_far.same k early
              | inr late ↦
                  let at : n ≡ k = omega (arith, low, late) in
                  subst (λ m. lookup (nat_eq m) rows ≡ given m) at (lookup_past rows n n so_far.below (omega arith) ∙ sym none)
            ];
        fit = fit_more;
      }

      pub step_some : (more : List (ℕ × ℕ)) (to : ℕ) → given n ≡ Some to → more ≡ rows ++ (n, to) ∷ []
          → AreGivenSteps kernels next given more (n + 1)
      step_some more to some is =
          let row : ℕ × ℕ = (n, to) in
          let all = rows ++ row ∷ [] in
          let pushed : AreGivenSteps kernels next given all (n + 1) =
          record {
            ascend = subst (AscendFrom 0) (sym (keys_push rows row)) (ascend_push (keys_of rows) 0 n so_far.ascend so_far.below (omega arith));
            below = subst (All (λ k. k < n + 1)) (sym (keys_push rows row)) (All-push (λ k. k < n + 1) (keys_of rows) n below_more (omega arith));
            same = λ k low.
                elim (cases_eq k n) [
                  | inl same ↦
                      subst (λ m. lookup (nat_eq m) all ≡ given m) (sym same) (lookup_last rows row so_far.below ∙ sym some)
                  | inr other ↦
                      let early : k < n = let apart : k ≢ n = other in omega (arith, low, apart) in
                      lookup_other rows row k other ∙ so_far.same k early
                ];
            fit = fit_more;
          } in
          subst (λ rs. AreGivenSteps kernels next given rs (n + 1)) (sym is) pushed

-- the transitions that were read from rows are the given ones of the cores
module _ {S A : Type 0} (index : S → ℕ) (g : Grammar) (kernels : List (List CoreSet)) (cores : List CoreSet) (symbol : ℕ → GrammarSymbol)
    (reached lent : List (Vec (CoreItems S) A)) (row read : List (Option ℕ)) (rows : List (ℕ × ℕ)) (n : ℕ) where
  pub given_next : lent ≡ reached → read ≡ row → length reached ≡ n → AreNext g cores symbol (kernel_rows index reached)
      → AreGivenSteps kernels (kernel_at (kernel_rows index lent)) (λ k. slice_index_or read k None) rows n
      → AreGivenSteps kernels (λ k. next_kernel g (symbol k) cores) (λ k. slice_index_or row k None) rows n
  given_next same is len next steps =
      let count = length-map reached (λ (kernel : Vec (CoreItems S) A). map (core_set index) kernel.items) in
      let all =
      subst (λ r. AreGivenSteps kernels (kernel_at (kernel_rows index reached)) (λ k. slice_index_or r k None) rows n) is
      (subst (λ ks. AreGivenSteps kernels (kernel_at (kernel_rows index ks)) (λ k. slice_index_or read k None) rows n) same steps) in
      same_next kernels (kernel_at (kernel_rows index reached)) (λ k. slice_index_or row k None) rows n all (λ k. next_kernel g (symbol k) cores)
      (λ k low. next k (omega (arith, low, len, count)))
