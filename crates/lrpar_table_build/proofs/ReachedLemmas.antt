-- What the items of all sets that gotos reach have in common. Such a set is the closure of the start item, or of the items of another
-- set, each advanced by one; and the closure adds items with the dot at the start.
use Rattle.std.proofs.Common.{◌≡◌, ◌≢◌, ◌<◌, ◌+◌, ◌⊎◌, ◌∙◌, refl, sym, ap, subst, inl, inr, arith, ℕ, zero, suc, List, [], ◌∷◌, drop, length, Option, Some, slice_get}
use Rattle.std.specs.Option.{option_map_or}
use Rattle.std.proofs.lemmas.Bool.{cases_lt}
use Rattle.std.proofs.lemmas.Option.{get_or_from_slice_get, slice_get_cases, slice_get_within}
use Rattle.lrpar_grammar.specs.Grammar.{Grammar, GrammarSymbol, IsDeclaredSymbol, IsWellFormed, Nonterminal, Terminal, end_token, prods_len, rule_of, rules_len, start_prod, symbols_of, tokens_len}
use Rattle.lrpar_table_rows.specs.Graph.{ItemOf, item_at}
use Rattle.lrpar_table_rows.specs.Safe.{IsItem}
use Rattle.lrpar_table_first.specs.First.{IsFirst, Empty, Rule, Token}
use Rattle.lrpar_table_items.specs.ItemSets.{Adds, Added, IsAdvanced, IsInClosure, IsReachedBy, IsStartItem, Own}
use Rattle.lrpar_table_first.proofs.FirstLemmas.{AreBelow, AreBelow-append}
use Rattle.lrpar_table_first.proofs.GrowthLemmas.{prods_below}

-- the first element of the rest of a list
pub head_after : {X : Type 0} (xs : List X) (n : ℕ) (x : X) (rest : List X) → drop n xs ≡ x ∷ rest → slice_get xs n ≡ Some x
head_after [] zero x rest h = absurd (cc)
head_after [] (suc n) x rest h = absurd (cc)
head_after (y ∷ ys) zero x rest h = let same : y ≡ x = cc in ap (λ z. Some z) same
head_after (y ∷ ys) (suc n) x rest h = head_after ys n x rest h

-- the rest of symbols below the dummy lookahead
AreBelow-drop : (dummy n : ℕ) (w : List GrammarSymbol) → AreBelow dummy w → AreBelow dummy (drop n w)
AreBelow-drop dummy zero w below = below
AreBelow-drop dummy (suc n) [] below = tt
AreBelow-drop dummy (suc n) (Terminal t ∷ w) below = AreBelow-drop dummy n w below.1
AreBelow-drop dummy (suc n) (Nonterminal r ∷ w) below = AreBelow-drop dummy n w below

-- an item of a closure is one of the items, or an item of the closure adds it
pub closure_cases : (g : Grammar) (items : ItemOf → Type 0) (x : ItemOf) → IsInClosure g items x
    → items x ⊎ ((from : ItemOf) × IsInClosure g items from × Adds g from x)
closure_cases g items x (Own y h) = inl h
closure_cases g items x (Added y z h adds) = inr (y, h, adds)

-- if something holds of the start item, and advancing and adding keep it, it holds of all items of a closure, and of all items
-- that gotos reach
module _ (g : Grammar) (P : ItemOf → Type 0) (added : (x y : ItemOf) → P x → Adds g x y → P y) where
  pub closure_each : (items : ItemOf → Type 0) → ((x : ItemOf) → items x → P x) → (x : ItemOf) → IsInClosure g items x → P x
  closure_each items own x (Own y h) = own y h
  closure_each items own x (Added y z h adds) = added y z (closure_each items own y h) adds

  pub reached_each : P (item_at (start_prod g) 0 (end_token g))
      → ((x : ItemOf) (s : GrammarSymbol) → P x → slice_get (symbols_of g x.prod) x.dot ≡ Some s → P (item_at x.prod (x.dot + 1) x.token))
      → (path : List GrammarSymbol) (x : ItemOf) → IsReachedBy g path x → P x
  reached_each start advanced [] = closure_each (IsStartItem g) (λ x is. subst P (sym is) start)
  reached_each start advanced (s ∷ path) =
      closure_each (IsAdvanced g (IsReachedBy g path) s)
      (λ y from. subst P (sym from.3) (advanced from.0 s (reached_each start advanced path from.0 from.1) from.2))

module _ (g : Grammar) (well : IsWellFormed g) where
  -- a production with a symbol is one of the grammar
  pub known_by_symbol : (p k : ℕ) (s : GrammarSymbol) → slice_get (symbols_of g p) k ≡ Some s → p < prods_len g
  known_by_symbol p k s at =
      elim (slice_get_cases g.prods p).1 as (λ _. p < prods_len g) [
        | inl found ↦ found.1
        | inr past ↦
            let none : symbols_of g p ≡ [] = ap (λ o. option_map_or (λ x. x.symbols) o []) past.1 in
            let within = slice_get_within (symbols_of g p) k s at in
            let empty = ap (λ (w : List GrammarSymbol). length w) none in
            absurd (omega (arith, within, empty))
      ]

  -- the start production is one of the grammar
  pub start_known : start_prod g < prods_len g
  start_known = known_by_symbol (start_prod g) 0 (Nonterminal g.start) (ap (λ (w : List GrammarSymbol). slice_get w 0) well.last_symbols)

  -- a symbol of a production is a listed rule or a token other than the end token
  pub symbol_listed : (p k : ℕ) (s : GrammarSymbol) → slice_get (symbols_of g p) k ≡ Some s → IsDeclaredSymbol (rules_len g) (end_token g) s
  symbol_listed p k s at =
      let known = known_by_symbol p k s at in
      let P = IsDeclaredSymbol (rules_len g) (end_token g) in
      let within = slice_get_within (symbols_of g p) k s at in
      elim (cases_lt p (start_prod g)) as (λ _. P s) [
        | inl listed ↦ subst P (get_or_from_slice_get (symbols_of g p) k s s at) (well.symbols p listed k s within)
        | inr last ↦
            let is : p ≡ start_prod g = omega (arith, known, last) in
            let symbols : symbols_of g p ≡ Nonterminal g.start ∷ [] = ap (symbols_of g) is ∙ well.last_symbols in
            let first : k ≡ 0 = let many = ap (λ (w : List GrammarSymbol). length w) symbols in omega (arith, within, many) in
            let here : slice_get (Nonterminal g.start ∷ []) k ≡ Some s =
            subst (λ (w : List GrammarSymbol). slice_get w k ≡ Some s) symbols at in
            let there : ◌≡◌ {A = Option GrammarSymbol} (Some (Nonterminal g.start)) (Some s) =
            subst (λ (n : ℕ). slice_get (Nonterminal g.start ∷ []) n ≡ Some s) first here in
            let same : Nonterminal g.start ≡ s = cc in
            subst P same (well.start_added, well.start_within)
      ]

  -- so none is the start rule `^`
  pub no_added_rule : (p k r : ℕ) → r ≡ 0 → slice_get (symbols_of g p) k ≡ Some (Nonterminal r) → ⊥
  no_added_rule p k r is at = let listed = symbol_listed p k (Nonterminal r) at in omega (arith, listed.0, is)

  -- and none is the end token
  pub no_end_token : (p k t : ℕ) → t ≡ end_token g → slice_get (symbols_of g p) k ≡ Some (Terminal t) → ⊥
  no_end_token p k t is at = let listed : t < end_token g = symbol_listed p k (Terminal t) at in omega (arith, listed, is)

  -- an item has the rule of what it adds after its dot
  before_added : (x y : ItemOf) → Adds g x y → slice_get (symbols_of g x.prod) x.dot ≡ Some (Nonterminal (rule_of g y.prod))
  before_added x y adds =
      subst (λ (r : ℕ). slice_get (symbols_of g x.prod) x.dot ≡ Some (Nonterminal r)) (sym adds.of_rule)
      (head_after (symbols_of g x.prod) x.dot (Nonterminal adds.rule) adds.rest adds.before)

  -- what an item adds isn't of the start production
  pub added_is_listed : (x y : ItemOf) → Adds g x y → y.prod ≢ start_prod g
  added_is_listed x y adds is =
      no_added_rule x.prod x.dot (rule_of g y.prod) (ap (rule_of g) is ∙ well.last_rule) (before_added x y adds)

  -- First(w, a) has only tokens, if a is a token
  first_below : (a : ℕ) (w : List GrammarSymbol) (t : ℕ) → a < tokens_len g → AreBelow (tokens_len g) w → IsFirst g a w t
      → t < tokens_len g
  first_below a w t low free Empty = low
  first_below a w t low free (Token s v) = free.0
  first_below a w t low free (Rule p r v s known by h) =
      first_below a _ s low (AreBelow-append (tokens_len g) (symbols_of g p) v (prods_below g well p known) free) h

  -- each item is one of the grammar
  pub reached_items : (path : List GrammarSymbol) (x : ItemOf) → IsReachedBy g path x → IsItem g x.prod x.dot x.token
  reached_items =
      reached_each g (λ x. IsItem g x.prod x.dot x.token)
      (λ x y item adds.
      let left = AreBelow-drop (tokens_len g) x.dot (symbols_of g x.prod) (prods_below g well x.prod item.prod) in
      let rest : AreBelow (tokens_len g) adds.rest = subst (AreBelow (tokens_len g)) adds.before left in
      record {
        prod = adds.known;
        dot = let front = adds.fresh in omega (arith, front);
        token = first_below x.token adds.rest y.token item.token rest adds.first;
      })
      (record { prod = start_known; dot = omega arith; token = omega arith })
      (λ x s item at. record {
        prod = item.prod;
        dot = let within = slice_get_within (symbols_of g x.prod) x.dot s at in omega (arith, within);
        token = item.token;
      })

  -- the start production's items have the end token
  pub reached_at_end : (path : List GrammarSymbol) (x : ItemOf) → IsReachedBy g path x → x.prod ≡ start_prod g → x.token ≡ end_token g
  reached_at_end =
      reached_each g (λ x. x.prod ≡ start_prod g → x.token ≡ end_token g)
      (λ x y last adds is. absurd (added_is_listed x y adds is))
      (λ is. refl)
      (λ x s last at is. last is)

  -- in the set of the start state, all dots are at the start
  pub start_is_fresh : (x : ItemOf) → IsReachedBy g [] x → x.dot ≡ 0
  start_is_fresh = closure_each g (λ x. x.dot ≡ 0) (λ x y before adds. adds.fresh) (IsStartItem g) (λ x is. ap (λ y. y.dot) is)

  -- in no other set the start production's dot is at the start
  pub start_item_at_start : (path : List GrammarSymbol) (x : ItemOf) → IsReachedBy g path x → x.prod ≡ start_prod g → x.dot ≡ 0 → path ≡ []
  start_item_at_start [] x h last fresh = refl
  start_item_at_start (s ∷ path) x h last fresh =
      elim (closure_cases g (IsAdvanced g (IsReachedBy g path) s) x h) [
        | inl own ↦ let moved : x.dot ≡ own.0.dot + 1 = ap (λ y. y.dot) own.3 in absurd (omega (arith, moved, fresh))
        | inr more ↦ absurd (added_is_listed more.0 x more.2 last)
      ]

  -- for an item with its dot at the start, other than the start item, an item of its set has its rule after the dot
  pub comes_with_rule : (path : List GrammarSymbol) (y : ItemOf) → IsReachedBy g path y → y.dot ≡ 0 → y.prod ≢ start_prod g
      → (x : ItemOf) × IsReachedBy g path x × (slice_get (symbols_of g x.prod) x.dot ≡ Some (Nonterminal (rule_of g y.prod)))
  comes_with_rule [] y h fresh listed =
      elim (closure_cases g (IsStartItem g) y h) [
        | inl own ↦ absurd (listed (ap (λ x. x.prod) own))
        | inr more ↦ (more.0, more.1, before_added more.0 y more.2)
      ]
  comes_with_rule (s ∷ path) y h fresh listed =
      elim (closure_cases g (IsAdvanced g (IsReachedBy g path) s) y h) [
        | inl own ↦ let moved : y.dot ≡ own.0.dot + 1 = ap (λ x. x.dot) own.3 in absurd (omega (arith, moved, fresh))
        | inr more ↦ (more.0, more.1, before_added more.0 y more.2)
      ]
