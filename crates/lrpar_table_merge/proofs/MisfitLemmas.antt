-- Kernels that can't be passed on.
use Rattle.std.proofs.Common.{Result, Ok, Err, IfErr, IsErrAnd, ◌≡◌, ◌<◌, ◌∙◌, sym, subst, inl, inr, arith, ℕ, List, Option, None, Some, length}
use Rattle.lrpar_grammar.specs.Grammar.{Grammar, GrammarSymbol}
use Rattle.lrpar_table_items.specs.Canonical.{AreSame}
use Rattle.lrpar_table_items.specs.CoreOrder.{AreCores, IsKernel}
use Rattle.lrpar_table_items.specs.Cores.{CoreSet, IsAmong}
use Rattle.lrpar_table_items.specs.ItemSets.{IsInClosure}
use Rattle.lrpar_table_items.specs.Next.{AreNext, kernel_at}
use Rattle.lrpar_table_merge.specs.Held.{TransitionsOf, next_of, transitions_at}
use Rattle.lrpar_table_merge.specs.Misfits.{HasMisfitIn, HasNoStart, IsStuck, IsStuckAt}
use Rattle.lrpar_table_merge.specs.PassedOn.{IsMisfit}
use Rattle.lrpar_table_merge.specs.Propagated.{AreAlike, step_at}
use Rattle.lrpar_table_merge.proofs.FromLemmas.{items_next, next_items, none_or_kernels}
use Rattle.lrpar_table_merge.proofs.PropagateLemmas.{alike_on}

-- the fault that a `?` returns
pub fault_is : {T E : Type 0} (r : Result T E) (P : E → Type 0) (fault : E) → IsErrAnd r (λ other. other ≡ fault) → P fault → IfErr r P
fault_is (Ok x) P fault is holds = tt
fault_is (Err other) P fault is holds = subst P (sym is) holds

pub fault_weaker : {T E : Type 0} (r : Result T E) (P Q : E → Type 0) → ((fault : E) → P fault → Q fault) → IfErr r P → IfErr r Q
fault_weaker (Ok x) P Q weaker holds = tt
fault_weaker (Err fault) P Q weaker holds = weaker fault holds

-- a misfit depends only on the LR(0) cores of the kernels
pub misfit_back : (first now : List (List CoreSet)) (step : Option ℕ) (next : List CoreSet) → AreAlike first now → IsMisfit now step next
    → IsMisfit first step next
misfit_back first now None next alike misfit = tt
misfit_back first now (Some state) next alike misfit =
    elim misfit [
      | inl past ↦ let len = alike.len in inl (omega (arith, past, len))
      | inr apart ↦ inr (λ same. apart (alike.cores state ∙ same))
    ]

-- the kernel at a place of a row can't be passed on
pub misfit_at : (first now : List (List CoreSet)) (row : List (Option ℕ)) (nexts : List (List CoreSet)) (i : ℕ) (step : Option ℕ) (next : List CoreSet)
    → i < length nexts → step ≡ step_at row i → kernel_at nexts i ≡ next → AreAlike first now → 0 < length next → IsMisfit now step next
    → HasMisfitIn first row nexts
misfit_at first now row nexts i step next low is at alike some misfit = record {
  place = i;
  low = low;
  some = subst (λ (k : List CoreSet). 0 < length k) (sym at) some;
  misfit =
      misfit_back first now (step_at row i) (kernel_at nexts i) alike
      (subst (λ k. IsMisfit now (step_at row i) k) (sym at) (subst (λ s. IsMisfit now s next) is misfit));
}

-- so the state can't be passed on by the symbol of that place
pub stuck_from : (g : Grammar) (all : List TransitionsOf) (state : ℕ) (before now : List (List CoreSet)) (cores : List CoreSet)
    → AreSame (IsAmong cores) (IsInClosure g (IsAmong (kernel_at before state))) → AreCores g cores → (symbol : ℕ → GrammarSymbol)
    → (nexts : List (List CoreSet)) → AreNext g cores symbol nexts → (row : List (Option ℕ))
    → ((i : ℕ) → step_at row i ≡ next_of (transitions_at all state) (symbol i)) → IsKernel g (kernel_at before state) → AreAlike before now
    → HasMisfitIn now row nexts → (X : GrammarSymbol) × IsStuckAt g all before state X
stuck_from g all state before now cores closure are symbol nexts next row steps kernel alike found =
    let own = kernel_at before state in
    let i = found.place in (
      symbol i,
      record {
        kernel = kernel;
        next = kernel_at nexts i;
        next_kernel = none_or_kernels g own cores closure are symbol nexts next i found.some;
        items = λ x. (
          next_items g own cores closure are symbol nexts next i x,
          items_next g own cores closure are symbol nexts next i x found.low,
        );
        misfit =
            misfit_back before now (next_of (transitions_at all state) (symbol i)) (kernel_at nexts i) alike
            (subst (λ s. IsMisfit now s (kernel_at nexts i)) (steps i) found.misfit);
      },
    )

-- what holds of kernels with these LR(0) cores
pub stuck_back : (g : Grammar) (all : List TransitionsOf) (first now : List (List CoreSet)) → AreAlike first now → IsStuck g all now → IsStuck g all first
stuck_back g all first now alike stuck = record {
  reached = stuck.reached;
  alike = alike_on first now stuck.reached alike stuck.alike;
  held = stuck.held;
  state = stuck.state;
  symbol = stuck.symbol;
  stuck = stuck.stuck;
}

pub no_start_back : (g : Grammar) (first now : List (List CoreSet)) → AreAlike first now → HasNoStart g now → HasNoStart g first
no_start_back g first now alike none = record {
  next = none.next;
  next_kernel = none.next_kernel;
  items = none.items;
  misfit = misfit_back first now (Some 0) none.next alike none.misfit;
}
