-- How many reductions a chain makes, step by step.
use Rattle.std.proofs.Common.{◌≡◌, ◌<◌, ◌≤◌, ◌+◌, ◌↔◌, ◌⊎◌, inl, inr, arith, refl, sym, subst, ℕ, suc, List, Option, Some, None}
use Rattle.lrpar_grammar.specs.Grammar.{Grammar}
use Rattle.lrpar_table_stacks.specs.Chain.{HasReductions}
use Rattle.lrpar_table_stacks.specs.ReductionStep.{IsStepOf}
use Rattle.lrpar_table_stacks.specs.declared.reduction.Step.{Step}
use Rattle.lrpar_table_stacks.specs.declared.reduction.Step.TheVariants.{Reduced, LeavesNone, Stays}
use Rattle.lrpar_table_stacks.proofs.StepLemmas.{goes_on_dropped, goes_on_reduced, goes_on_stays}
use Rattle.lrpar_table_rows.specs.Table.{Table}
use Rattle.lrpar_table_check.specs.Lengths.{IsCounted, IsLength}
use Rattle.lrpar_table_check.proofs.LeastCapLemmas.{fewer}

-- The chain from `start` has made `made` steps and come to the states of `st`: what it makes beside them, it makes from there.
abbrev pub Comes : Grammar → Table → ℕ → List ℕ → List ℕ → ℕ → Type 0
Comes g table t start st made = (left : ℕ) → HasReductions g table t start (made + left) ↔ HasReductions g table t st left

module _ (g : Grammar) (table : Table) (t : ℕ) (start : List ℕ) where
  abbrev Makes : ℕ → Type 0
  Makes n = HasReductions g table t start n

  -- at the start
  pub comes_first : Comes g table t start start 0
  comes_first left =
      let e : 0 + left ≡ left = omega arith in
      ((λ h. subst (λ (n : ℕ). Makes n) e h), (λ h. subst (λ (n : ℕ). Makes n) (sym e) h))

  -- one step more
  pub comes_more : (st after : List ℕ) (made : ℕ) (step : Step) → Comes g table t start st made → step ≡ Reduced → IsStepOf g table t st step after
      → Comes g table t start after (made + 1)
  comes_more st after made step comes is reduced left =
      let h = subst (λ (s : Step). IsStepOf g table t st s after) is reduced in
      let e : (made + 1) + left ≡ made + suc left = omega arith in
      let here = comes (suc left) in
      let on = goes_on_reduced g table t st h.0 after left h.1 in
      ((λ all. on.0 (here.0 (subst (λ (n : ℕ). Makes n) e all))), (λ rest. subst (λ (n : ℕ). Makes n) (sym e) (here.1 (on.1 rest))))

  module _ (cap : ℕ) where
    -- a step that would drop all states is the last one
    pub length_dropped : (st after : List ℕ) (made : ℕ) (step : Step) → Comes g table t start st made → made < cap → step ≡ LeavesNone
        → IsStepOf g table t st step after → IsLength g table cap t start (made + 1)
    length_dropped st after made step comes below is h =
        let drops = subst (λ (s : Step). IsStepOf g table t st s after) is h in
        record {
          within = omega (arith, below);
          makes = (comes 1).1 (inr (drops.0, refl));
          no_more = λ all.
              let e : (made + 1) + 1 ≡ made + 2 = omega arith in
              let rest = (comes 2).0 (subst (λ (n : ℕ). Makes n) e all) in
              omega (arith, goes_on_dropped g table t st 1 drops.0 rest);
        }

    -- if none is made, the chain has ended
    pub length_stays : (st after : List ℕ) (made : ℕ) (step : Step) → Comes g table t start st made → made ≤ cap → step ≡ Stays
        → IsStepOf g table t st step after → IsLength g table cap t start made
    length_stays st after made step comes below is h =
        let e : made + 0 ≡ made = omega arith in
        record {
          within = below;
          makes = subst (λ (n : ℕ). Makes n) e ((comes 0).1 tt);
          no_more = λ all. goes_on_stays g table t st after 0 (subst (λ (s : Step). IsStepOf g table t st s after) is h) ((comes 1).0 all);
        }

    -- after as many as the cap one more is too much
    pub longer : (st after : List ℕ) (made : ℕ) (step : Step) → Comes g table t start st made → made ≡ cap
        → (step ≡ Reduced) ⊎ (step ≡ LeavesNone) → IsStepOf g table t st step after → Makes (cap + 1)
    longer st after made step comes end is h =
        subst (λ (n : ℕ). Makes (n + 1)) end ((comes 1).1 (elim is as (λ _. HasReductions g table t st 1) [
          | inl reduced ↦ let more = subst (λ (s : Step). IsStepOf g table t st s after) reduced h in inl (more.0, after, more.1, tt)
          | inr leaves ↦ let drops = subst (λ (s : Step). IsStepOf g table t st s after) leaves h in inr (drops.0, refl)
        ]))

    -- what was counted says whether the chain is too long
    pub counted_long : (o : Option ℕ) → IsCounted g table cap t start o → o ≡ None → Makes (cap + 1)
    counted_long o counted is = subst (λ (p : Option ℕ). IsCounted g table cap t start p) is counted

    pub counted_length : (o : Option ℕ) (made : ℕ) → IsCounted g table cap t start o → o ≡ Some made → IsLength g table cap t start made
    counted_length o made counted is = subst (λ (p : Option ℕ). IsCounted g table cap t start p) is counted

    pub counted_short : (o : Option ℕ) (made : ℕ) → IsCounted g table cap t start o → o ≡ Some made → ¬ (Makes (cap + 1))
    counted_short o made counted is long =
        let length = counted_length o made counted is in
        length.no_more (fewer g table t (made + 1) (cap + 1) start (omega (arith, length.within)) long)
