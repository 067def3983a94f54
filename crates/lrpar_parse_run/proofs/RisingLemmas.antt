-- Reductions keep the entries on a run's stack in order.
use Rattle.std.proofs.Common.{◌≡◌, ◌-◌, ℕ, List, [], ◌∷◌, ◌++◌, Option, length, subst, sym}
use Rattle.std.proofs.lemmas.List.{take-append-drop}
use Rattle.lrpar_grammar.specs.Grammar.{Grammar, GrammarSymbol, prod_len}
use Rattle.lrpar_table_rows.specs.Table.{Table}
use Rattle.lrpar_parse_run.specs.Rising.{KeepsRising}
use Rattle.lrpar_parse_run.specs.RunStack.{ReducesAllTo, ReducesTo, Stacked, kept_by, popped_by}

module _ {X E : Type 0} (start : X → ℕ) (leaf : X → E → Type 0) (node : ℕ → Option E → List E → E → Type 0) (suits : GrammarSymbol → E → Type 0) (rises : List E → ℕ → Type 0) (keeps : KeepsRising start leaf node rises) where
  -- a reduction keeps the order
  rise_reduce : (g : Grammar) (table : Table) (t p : ℕ) (old new : Stacked E) (n : ℕ) → ReducesTo node suits g table t old p new → rises old.entries n → rises new.entries n
  rise_reduce g table t p old new n by rise =
      let whole : kept_by g p old.entries ++ popped_by g p old.entries ≡ old.entries = take-append-drop (length old.entries - prod_len g p) old.entries in
      subst (λ (es : List E). rises es n) (sym by.of_entries)
      (keeps.by_node (kept_by g p old.entries) (popped_by g p old.entries) n p by.entry (subst (λ (es : List E). rises es n) (sym whole) rise) by.made)

  -- and so do several
  pub rise_reduce_all : (g : Grammar) (table : Table) (t : ℕ) (ps : List ℕ) (old new : Stacked E) (n : ℕ) → ReducesAllTo node suits g table t old ps new → rises old.entries n → rises new.entries n
  rise_reduce_all g table t [] old new n same rise = subst (λ (stack : Stacked E). rises stack.entries n) same rise
  rise_reduce_all g table t (p ∷ ps) old new n (mid, first, others) rise = rise_reduce_all g table t ps mid new n others (rise_reduce g table t p old mid n first rise)
