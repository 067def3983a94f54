-- States that have the closures of their kernels, and transitions that fit, have merged item sets, if the closures are what the states hold.
use Rattle.std.proofs.Common.{◌≡◌, ◌<◌, ◌+◌, ◌∙◌, refl, sym, ap, subst, inl, inr, arith, ℕ, List, Option, Some, None, get_or, length, slice_get}
use Rattle.std.proofs.lemmas.Bool.{cases_lt}
use Rattle.std.proofs.lemmas.List.Elements.{Contains-get_or}
use Rattle.std.proofs.lemmas.Option.{same_Some}
use Rattle.lrpar_grammar.specs.Grammar.{Grammar, GrammarSymbol, IsWellFormed, Nonterminal, Terminal, rules_len, symbols_of, tokens_len}
use Rattle.lrpar_table_first.specs.FirstRows.{IsSymbolBelow}
use Rattle.lrpar_table_rows.specs.Graph.{ItemOf, item_at}
use Rattle.lrpar_table_items.specs.Canonical.{AreSame}
use Rattle.lrpar_table_items.specs.CoreOrder.{AreCores}
use Rattle.lrpar_table_items.specs.Cores.{CoreSet, IsAmong}
use Rattle.lrpar_table_items.specs.ItemSets.{IsInClosure, Own}
use Rattle.lrpar_table_items.specs.Next.{HaveAfterDot, kernel_at, next_kernel}
use Rattle.lrpar_table_items.specs.States.{AreStateRows, StateOf, sets_at, state_at}
use Rattle.lrpar_table_items.proofs.KernelLemmas.{once_in_order}
use Rattle.lrpar_table_items.proofs.NextLemmas.{next_cores, next_has_after_dot, next_some, next_to, some_item}
use Rattle.lrpar_table_items.proofs.StatesLemmas.{kernel_of_closure, own_of_begun, same_back, same_via}
use Rattle.lrpar_table_items.proofs.SymbolLemmas.{symbol_at_below}
use Rattle.lrpar_table_build.proofs.SafeLemmas.{advanced_from}
use Rattle.lrpar_table_merge.specs.Compatible.{HaveSameCores, lr0_core}
use Rattle.lrpar_table_merge.specs.Distinct.{AreDistinct, AreNew}
use Rattle.lrpar_table_merge.specs.Held.{Closes, GoesBy, IsHeld, Starts, Steps, TransitionsOf, next_of, transitions_at}
use Rattle.lrpar_table_merge.specs.Merged.{Along, AreMerged}
use Rattle.lrpar_table_merge.specs.MergedStates.{AreMergedStates, steps_of_states}
use Rattle.lrpar_table_merge.specs.MergedSteps.{FitsNext, IsGivenState}
use Rattle.lrpar_table_merge.proofs.GivenStepLemmas.{key_below}
use Rattle.lrpar_table_merge.proofs.KernelLemmas.{image_at, image_len}

-- a transition that fits a kernel with cores is there
there : (kernels : List (List CoreSet)) (next : List CoreSet) (given : Option ℕ) → FitsNext kernels next given → 0 < length next
    → (n : ℕ) × (given ≡ Some n)
there kernels next None fits some = absurd (omega (arith, fits, some))
there kernels next (Some n) fits some = (n, refl)

module _ (g : Grammar) (well : IsWellFormed g) where
  -- if a kernel has the LR(0) cores of a goto, each item of its closure with the dot past the start comes from a core of the goto
  comes_from : (kernel cores : List CoreSet) (X : GrammarSymbol) → HaveSameCores kernel (next_kernel g X cores) → AreCores g cores → (p k t : ℕ)
      → IsInClosure g (IsAmong kernel) (item_at p (k + 1) t)
      → (slice_get (symbols_of g p) k ≡ Some X) × ((u : ℕ) × IsAmong cores (item_at p k u))
  comes_from kernel cores X same are p k t h =
      let next = next_kernel g X cores in
      let own = own_of_begun g well (IsAmong kernel) (item_at p (k + 1) t) h (inl (omega arith)) in
      let core = own.0 in
      let i = own.1.0 in
      let low : i < length kernel = own.1.1 in
      let below : i < length next = omega (arith, low, image_len lr0_core kernel next same) in
      let other = get_or next i core in
      let at : lr0_core other ≡ lr0_core core = sym (image_at lr0_core kernel next same i core low) ∙ ap lr0_core own.1.2 in
      let filled = (next_cores g X cores are).filled i core below in
      let among : IsAmong next (item_at p (k + 1) filled.0) =
      (other, Contains-get_or next i core below, (ap (λ q. q.0) at ∙ own.2.0, ap (λ q. q.1) at ∙ own.2.1, filled.1)) in
      let item = item_at p (k + 1) filled.0 in
      let from = advanced_from g (IsAmong cores) X p k filled.0 (Own item (next_to g X cores item among)) in
      (from.0, (filled.0, from.1))

  module _ (kernels : List (List CoreSet)) (some : 0 < length kernels) (all : List TransitionsOf)
      (held : (s : ℕ) → AreSame (IsInClosure g (IsAmong (kernel_at kernels s))) (IsHeld g (GoesBy all) s))
      (states : List StateOf) (len : length states ≡ length kernels)
      (given : (s : ℕ) → s < length states → IsGivenState g kernels (transitions_at all s) (kernel_at kernels s) (state_at states s)) where
    abbrev Goes : ℕ → GrammarSymbol → ℕ → Type 0
    Goes = Along (steps_of_states states)

    abbrev cores_at : ℕ → List CoreSet
    cores_at s = (state_at states s).cores

    -- the kernel of the goto, and the given transition
    abbrev goto_at : ℕ → GrammarSymbol → List CoreSet
    goto_at s X = next_kernel g X (cores_at s)

    abbrev given_at : ℕ → GrammarSymbol → Option ℕ
    given_at s X = next_of (transitions_at all s) X

    -- each state has its given transitions, which fit
    step_is : (s : ℕ) (X : GrammarSymbol) → s < length states → IsSymbolBelow (rules_len g) (tokens_len g) X
        → (steps_of_states states s X ≡ given_at s X) × FitsNext kernels (goto_at s X) (given_at s X)
    step_is s (Nonterminal r) low below = let rows = (given s low).gotos in (rows.same r below, rows.fit r below)
    step_is s (Terminal t) low below = let rows = (given s low).shifts in (rows.same t below, rows.fit t below)

    symbol_below : (s : ℕ) (X : GrammarSymbol) (n : ℕ) → s < length states → Goes s X n → IsSymbolBelow (rules_len g) (tokens_len g) X
    symbol_below s (Nonterminal r) n low go =
        key_below kernels (λ k. goto_at s (Nonterminal k)) (λ k. given_at s (Nonterminal k)) (state_at states s).gotos (rules_len g)
        (given s low).gotos r n go
    symbol_below s (Terminal t) n low go =
        key_below kernels (λ k. goto_at s (Terminal k)) (λ k. given_at s (Terminal k)) (state_at states s).shifts (tokens_len g)
        (given s low).shifts t n go

    step_at : (s : ℕ) (X : GrammarSymbol) (n : ℕ) → s < length states → Goes s X n
        → (given_at s X ≡ Some n) × FitsNext kernels (goto_at s X) (Some n)
    step_at s X n low go =
        let is = step_is s X low (symbol_below s X n low go) in
        let same : given_at s X ≡ Some n = sym is.0 ∙ go in (same, subst (FitsNext kernels (goto_at s X)) same is.1)

    -- there is one where an item has the symbol after its dot
    goes_at : (s : ℕ) (X : GrammarSymbol) → s < length states → HaveAfterDot g (cores_at s) X → (n : ℕ) × Goes s X n × (given_at s X ≡ Some n)
    goes_at s X low after =
        let is = step_is s X low (symbol_at_below g well after.0.prod after.0.dot X after.2) in
        let to = there kernels (goto_at s X) (given_at s X) is.1 (next_some g X (cores_at s) after) in (to.0, is.0 ∙ to.1, to.1)

    set_held : (s : ℕ) → s < length states → AreSame (IsAmong (cores_at s)) (IsHeld g (GoesBy all) s)
    set_held s low =
        same_via (IsAmong (cores_at s)) (IsInClosure g (IsAmong (kernel_at kernels s))) (IsHeld g (GoesBy all) s) (given s low).closure.items
        (held s)

    -- states hold the same items by their rows as by the given transitions
    to_rows : (s : ℕ) (x : ItemOf) → IsHeld g (GoesBy all) s x → (s < length states) × IsHeld g Goes s x
    to_rows s x (Starts y is) = (omega (arith, some, len), Starts y is)
    to_rows s x (Closes r y z h adds) = let from = to_rows r y h in (from.0, Closes r y z from.1 adds)
    to_rows s x (Steps r n X y go h at) =
        let from = to_rows r y h in
        let to = goes_at r X from.0 (y, (set_held r from.0 y).1 h, at) in
        let moved : Goes r X n = subst (Goes r X) (same_Some to.0 n (sym to.2 ∙ go)) to.1 in
        let low = (step_at r X n from.0 moved).1.2 in (omega (arith, low, len), Steps r n X y moved from.1 at)

    from_rows : (s : ℕ) (x : ItemOf) → IsHeld g Goes s x → (s < length states) × IsHeld g (GoesBy all) s x
    from_rows s x (Starts y is) = (omega (arith, some, len), Starts y is)
    from_rows s x (Closes r y z h adds) = let from = from_rows r y h in (from.0, Closes r y z from.1 adds)
    from_rows s x (Steps r n X y go h at) =
        let from = from_rows r y h in
        let step = step_at r X n from.0 go in
        let low = step.1.2 in (omega (arith, low, len), Steps r n X y step.0 from.1 at)

    are_merged : AreMerged g (length states) (sets_at states) Goes
    are_merged = record {
      start = omega (arith, some, len);
      some = λ s low.
          let closure = (given s low).closure in
          let item = some_item (kernel_at kernels s) closure.is_kernel.cores.filled closure.is_kernel.some in
          (item.0, (closure.items item.0).1 (Own item.0 item.1));
      held = λ s low x. (
        λ h. (to_rows s x ((set_held s low x).0 h)).1,
        λ h. (set_held s low x).1 (from_rows s x h).1,
      );
      next = λ s X low after. let to = goes_at s X low after in (to.0, to.1);
      step = λ s X n low go.
          let fits = (step_at s X n low go).1 in
          let below : n < length states = let within = fits.2 in omega (arith, within, len) in
          let are = (given s low).closure.are_cores in record {
            before = next_has_after_dot g X (cores_at s) are fits.0;
            within = below;
            never_back = fits.1;
            cores = λ p k t has.
                comes_from (kernel_at kernels n) (cores_at s) X fits.3 are p k t
                (((given n below).closure.items (item_at p (k + 1) t)).0 has);
          };
      once = λ s X n m low to other. same_Some n m (sym to ∙ other);
    }

    are_rows : AreStateRows g states
    are_rows = record {
      cores = λ s low. (given s low).closure.are_cores.of_grammar;
      once = λ s low. once_in_order g (cores_at s) (given s low).closure.are_cores.in_order;
      gotos_ascend = λ s low. (given s low).gotos.ascend;
      shifts_ascend = λ s low. (given s low).shifts.ascend;
      gotos_fit = λ s r next low is.
          let within = (step_at s (Nonterminal r) next low is).1.2 in (symbol_below s (Nonterminal r) next low is, omega (arith, within, len));
      shifts_fit = λ s t next low is.
          let within = (step_at s (Terminal t) next low is).1.2 in (symbol_below s (Terminal t) next low is, omega (arith, within, len));
    }

    -- no two states have the same items, if no two kernels are the same
    distinct_states : AreNew kernels → AreDistinct (length states) (sets_at states)
    distinct_states new s n low below same =
        let set = sets_at states in
        let closure = λ (m : ℕ). IsInClosure g (IsAmong (kernel_at kernels m)) in
        let one = given s low in
        let two = given n below in
        let closures =
        same_via (closure s) (set s) (closure n) (same_back (set s) (closure s) one.closure.items) (same_via (set s) (set n) (closure n) same two.closure.items) in
        let is = kernel_of_closure g well (kernel_at kernels s) (kernel_at kernels n) one.closure.is_kernel two.closure.is_kernel closures in
        elim (cases_lt s n) [
          | inl before ↦ absurd (new n (omega (arith, below, len)) s before is)
          | inr after ↦
              elim (cases_lt n s) [
                | inl before ↦ absurd (new s (omega (arith, low, len)) n before (sym is))
                | inr back ↦ omega (arith, after, back)
              ]
        ]

    pub are_merged_states : AreNew kernels → AreMergedStates g states
    are_merged_states new = record { rows = are_rows; merged = are_merged; distinct = distinct_states new }
