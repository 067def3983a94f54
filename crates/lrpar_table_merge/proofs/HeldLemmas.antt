-- The items that states hold, from sets of items that are propagated step by step.
use Rattle.std.proofs.Common.{◌+◌, refl, sym, subst, inl, inr, ℕ, List}
use Rattle.lrpar_grammar.specs.Grammar.{Grammar, GrammarSymbol}
use Rattle.lrpar_table_rows.specs.Graph.{ItemOf, item_at}
use Rattle.lrpar_table_items.specs.Cores.{CoreSet, IsAmong}
use Rattle.lrpar_table_items.specs.ItemSets.{IsAdvanced, IsInClosure, Own, Added, IsStartItem}
use Rattle.lrpar_table_items.specs.Next.{kernel_at}
use Rattle.lrpar_table_merge.specs.Held.{IsHeld, Starts, Closes, Steps}
use Rattle.lrpar_table_merge.specs.PassedOn.{IsPassedTo}

module _ (g : Grammar) (goes : ℕ → GrammarSymbol → ℕ → Type 0) where
  -- the sets have only items that the states hold
  abbrev pub AreHeld : (ℕ → ItemOf → Type 0) → Type 0
  AreHeld sets = (s : ℕ) (x : ItemOf) → sets s x → IsHeld g goes s x

  -- then so do their closures
  pub closure_held : (sets : ℕ → ItemOf → Type 0) → AreHeld sets → (s : ℕ) (x : ItemOf) → IsInClosure g (sets s) x → IsHeld g goes s x
  closure_held sets held s x (Own y h) = held s y h
  closure_held sets held s x (Added y z h adds) = Closes s y z (closure_held sets held s y h) adds

  -- and what a transition leads to
  pub advanced_held : (sets : ℕ → ItemOf → Type 0) → AreHeld sets → (s n : ℕ) (symbol : GrammarSymbol) (x : ItemOf) → goes s symbol n
      → IsAdvanced g (IsInClosure g (sets s)) symbol x → IsHeld g goes n x
  advanced_held sets held s n symbol x to h =
      subst (IsHeld g goes n) (sym h.3) (Steps s n symbol h.0 to (closure_held sets held s h.0 h.1) h.2)

  -- if the sets have the start item and what transitions lead to, their closures have all items that the states hold
  pub all_held : (sets : ℕ → ItemOf → Type 0) → ((x : ItemOf) → IsStartItem g x → sets 0 x)
      → ((s n : ℕ) (symbol : GrammarSymbol) (x : ItemOf) → goes s symbol n → IsAdvanced g (IsInClosure g (sets s)) symbol x → sets n x)
      → (s : ℕ) (x : ItemOf) → IsHeld g goes s x → IsInClosure g (sets s) x
  all_held sets start steps s x (Starts y h) = Own y (start y h)
  all_held sets start steps s x (Closes s' y z h adds) = Added y z (all_held sets start steps s' y h) adds
  all_held sets start steps s x (Steps s' n symbol y to h after) =
      let z = item_at y.prod (y.dot + 1) y.token in Own z (steps s' n symbol z to (y, all_held sets start steps s' y h, after, refl))

  -- the kernels have only held items after one more kernel of such items was passed on
  pub passed_held : (before after : List (List CoreSet)) (state : ℕ) (next : List CoreSet) → IsPassedTo before state next after
      → AreHeld (λ s. IsAmong (kernel_at before s)) → ((x : ItemOf) → IsAmong next x → IsHeld g goes state x) → AreHeld (λ s. IsAmong (kernel_at after s))
  passed_held before after state next passed held comes s x h =
      elim ((passed.items s x).0 h) [
        | inl own ↦ held s x own
        | inr came ↦ subst (λ n. IsHeld g goes n x) (sym came.0) (comes x came.1)
      ]
