-- What a state passes on: the items of the closure of its kernel, each advanced, by the kernels of its successors.
use Rattle.std.proofs.Common.{Vec, ◌≡◌, ◌<◌, ◌∙◌, refl, sym, ap, subst, inl, inr, arith, ℕ, IsTrue, List, [], ◌∷◌, ◌++◌, Option, get_or, length, map}
use Rattle.std.proofs.lemmas.Bool.{cases_lt}
use Rattle.std.proofs.lemmas.List.{get_or-map, get_or_past, length-map}
use Rattle.std.proofs.lemmas.List.Elements.{Contains-push_cases}
use Rattle.lrpar_grammar.specs.Grammar.{Grammar, GrammarSymbol, IsWellFormed, Nonterminal, Terminal, rules_len, tokens_len}
use Rattle.lrpar_grammar.specs.Tokens.{has}
use Rattle.lrpar_table_rows.specs.Graph.{ItemOf}
use Rattle.lrpar_table_items.specs.Canonical.{AreSame}
use Rattle.lrpar_table_items.specs.CoreOrder.{AreCores, IsKernel}
use Rattle.lrpar_table_items.specs.Cores.{CoreSet, IsAmong, core_set}
use Rattle.lrpar_table_items.specs.declared.cores.CoreItems.{CoreItems}
use Rattle.lrpar_table_items.specs.ItemSets.{IsAdvanced, IsInClosure}
use Rattle.lrpar_table_items.specs.Next.{AreNext, kernel_at, kernel_rows}
use Rattle.lrpar_table_items.proofs.NextLemmas.{next_from, next_kernel_is, next_to}
use Rattle.lrpar_table_items.proofs.SymbolLemmas.{symbol_at_below}
use Rattle.lrpar_table_merge.specs.Held.{GoesBy, TransitionsOf, transitions_at}
use Rattle.lrpar_table_merge.specs.Propagated.{AreNoneOrKernels, ArePassedAlong, IsPassedFrom, PassesOn, step_at}
use Rattle.lrpar_table_merge.proofs.PropagateLemmas.{among_low}
use Rattle.lrpar_table_merge.proofs.WithinLemmas.{closure_root}

-- one more core without lookaheads
pub no_item_more : (cores : List CoreSet) (core : CoreSet) → ((x : ItemOf) → IsAmong cores x → ⊥) → ((t : ℕ) → IsTrue (has core.tokens t) → ⊥)
    → (x : ItemOf) → IsAmong (cores ++ core ∷ []) x → ⊥
no_item_more cores core none empty x h =
    elim (Contains-push_cases cores core h.0 h.1) [
      | inl old ↦ none x (h.0, old, h.2)
      | inr is ↦ empty x.token (subst (λ (c : CoreSet). IsTrue (has c.tokens x.token)) (sym is) h.2.2)
    ]

-- a core with a lookahead has an item
pub some_item_at : {S : Type 0} (index : S → ℕ) (cores : List (CoreItems S)) (i : ℕ) (core : CoreItems S) → i < length cores → core ≡ get_or cores i core
    → (t : ℕ) → IsTrue (has core.tokens t) → (x : ItemOf) × IsAmong (map (core_set index) cores) x
some_item_at index cores i core low is t h =
    let count = length-map cores (core_set index) in
    let x : ItemOf = record { prod = index core.prod.0; dot = core.dot; token = t } in
    let at = get_or-map (core_set index) cores i core (core_set index core) low ∙ ap (core_set index) (sym is) in
    (x, (core_set index core, (i, omega (arith, low, count), at), (refl, refl, h)))

-- a state without items passes nothing on
pub nothing_from : (g : Grammar) (goes : ℕ → GrammarSymbol → ℕ → Type 0) (state : ℕ) (kernels : List (List CoreSet))
    → ((x : ItemOf) → IsAmong (kernel_at kernels state) x → ⊥) → IsPassedFrom g goes state kernels kernels
nothing_from g goes state kernels none = record {
  came = λ s x h. inl h;
  there = λ symbol x h.
      let root = closure_root g (IsAmong (kernel_at kernels state)) h.0 h.1 in absurd (none root.0 root.1);
}

module _ (g : Grammar) (kernel cores : List CoreSet) (closure : AreSame (IsAmong cores) (IsInClosure g (IsAmong kernel))) (are : AreCores g cores)
    (symbol : ℕ → GrammarSymbol) (nexts : List (List CoreSet)) (next : AreNext g cores symbol nexts) where
  -- the kernels of the gotos are kernels, if they have any cores
  pub none_or_kernels : AreNoneOrKernels g nexts
  none_or_kernels n some =
      elim (cases_lt n (length nexts)) [
        | inl low ↦
            subst (IsKernel g) (sym (next n low)) (next_kernel_is g (symbol n) cores are (subst (λ (k : List CoreSet). 0 < length k) (next n low) some))
        | inr past ↦ let none = ap (λ (k : List CoreSet). length k) (get_or_past nexts n [] past) in absurd (omega (arith, some, none))
      ]

  pub none_or_values : {S A : Type 0} (index : S → ℕ) (lent : List (Vec (CoreItems S) A)) → nexts ≡ kernel_rows index lent
      → AreNoneOrKernels g (kernel_rows index lent)
  none_or_values index lent value = subst (AreNoneOrKernels g) value none_or_kernels

  -- their items are those of the closure, advanced
  pub next_items : (n : ℕ) (x : ItemOf) → IsAmong (kernel_at nexts n) x → IsAdvanced g (IsInClosure g (IsAmong kernel)) (symbol n) x
  next_items n x h =
      let to = next_to g (symbol n) cores x (subst (λ k. IsAmong k x) (next n (among_low nexts n x h)) h) in
      (to.0, (closure to.0).0 to.1, to.2, to.3)

  pub items_next : (n : ℕ) (x : ItemOf) → n < length nexts → IsAdvanced g (IsInClosure g (IsAmong kernel)) (symbol n) x → IsAmong (kernel_at nexts n) x
  items_next n x low h = subst (λ k. IsAmong k x) (sym (next n low)) (next_from g (symbol n) cores x (h.0, (closure h.0).1 h.1, h.2, h.3))

-- the kernels of rules were passed on, and then those of tokens
module _ (g : Grammar) (well : IsWellFormed g) (all : List TransitionsOf) (state : ℕ) (before middle after : List (List CoreSet)) (cores : List CoreSet)
    (closure : AreSame (IsAmong cores) (IsInClosure g (IsAmong (kernel_at before state)))) (are : AreCores g cores)
    (by_rules by_tokens : List (List CoreSet)) (rules : AreNext g cores Nonterminal by_rules) (tokens : AreNext g cores Terminal by_tokens)
    (n m : ℕ) (rules_count : length by_rules ≡ n) (tokens_count : length by_tokens ≡ m) (rules_all : n ≡ rules_len g) (tokens_all : m ≡ tokens_len g)
    (rule_steps token_steps : List (Option ℕ)) (rules_are : rule_steps ≡ (transitions_at all state).rules)
    (tokens_are : token_steps ≡ (transitions_at all state).tokens) (one : ArePassedAlong rule_steps by_rules n before middle)
    (two : ArePassedAlong token_steps by_tokens m middle after)
    (kept : (s : ℕ) (x : ItemOf) → IsAmong (kernel_at middle s) x → IsAmong (kernel_at after s) x) where
  there : (symbol : GrammarSymbol) (x : ItemOf) → PassesOn g before state symbol x → (s : ℕ) × GoesBy all state symbol s × IsAmong (kernel_at after s) x
  there (Nonterminal r) x h =
      let listed : r < rules_len g = symbol_at_below g well h.0.prod h.0.dot (Nonterminal r) h.2 in
      let low : r < length by_rules = omega (arith, listed, rules_count, rules_all) in
      let to =
      one.there r (omega (arith, low, rules_count)) x (items_next g (kernel_at before state) cores closure are Nonterminal by_rules rules r x low h) in
      (to.0, ap (λ row. step_at row r) (sym rules_are) ∙ to.1, kept to.0 x to.2)
  there (Terminal t) x h =
      let listed : t < tokens_len g = symbol_at_below g well h.0.prod h.0.dot (Terminal t) h.2 in
      let low : t < length by_tokens = omega (arith, listed, tokens_count, tokens_all) in
      let to =
      two.there t (omega (arith, low, tokens_count)) x (items_next g (kernel_at before state) cores closure are Terminal by_tokens tokens t x low h) in
      (to.0, ap (λ row. step_at row t) (sym tokens_are) ∙ to.1, to.2)

  -- so all was passed on
  pub passed_from : IsPassedFrom g (GoesBy all) state before after
  passed_from = record {
    came = λ s x h.
        elim (two.came s x h) [
          | inl own ↦
              elim (one.came s x own) [
                | inl old ↦ inl old
                | inr came ↦
                    let to = ap (λ row. step_at row came.0) (sym rules_are) ∙ came.1 in
                    inr (Nonterminal came.0, to, next_items g (kernel_at before state) cores closure are Nonterminal by_rules rules came.0 x came.2)
              ]
          | inr came ↦
              let to = ap (λ row. step_at row came.0) (sym tokens_are) ∙ came.1 in
              inr (Terminal came.0, to, next_items g (kernel_at before state) cores closure are Terminal by_tokens tokens came.0 x came.2)
        ];
    there = there;
  }
