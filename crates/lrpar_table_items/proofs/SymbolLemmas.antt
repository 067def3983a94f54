-- The symbols of productions are those of the grammar.
use Rattle.std.proofs.Common.{◌≡◌, ◌+◌, sym, ap, subst, inl, inr, arith, ℕ, [], All, Option, IfSome, Some, None, slice_get}
use Rattle.std.proofs.lemmas.Bool.{cases_order}
use Rattle.std.proofs.lemmas.List.Elements.{All-cons, All-get_or, All-nil, All-weaker}
use Rattle.std.proofs.lemmas.Option.{get_or_from_slice_get, slice_get_past, slice_get_within}
use Rattle.std.specs.Option.{option_map, option_map_or}
use Rattle.lrpar_grammar.specs.Grammar.{Grammar, GrammarSymbol, IsDeclaredSymbol, IsWellFormed, Nonterminal, Terminal, end_token, rules_len, start_prod, symbols_of, tokens_len}
use Rattle.lrpar_table_first.specs.FirstRows.{IsSymbolBelow}

module _ (g : Grammar) (well : IsWellFormed g) where
  -- a symbol of a production is one of the grammar's
  listed_in : (rules tokens : ℕ) (symbol : GrammarSymbol) → IsDeclaredSymbol rules tokens symbol → IsSymbolBelow rules (tokens + 1) symbol
  listed_in rules tokens (Nonterminal r) listed = listed.1
  listed_in rules tokens (Terminal t) listed = omega (arith, listed)

  all_below : (p : ℕ) → All (IsSymbolBelow (rules_len g) (tokens_len g)) (symbols_of g p)
  all_below p =
      let Below = IsSymbolBelow (rules_len g) (tokens_len g) in
      elim (cases_order p (start_prod g)) [
        | inl last ↦
            subst (λ n. All Below (symbols_of g n)) (sym last)
            (subst (All Below) (sym well.last_symbols) (All-cons Below (Nonterminal g.start) [] well.start_within (All-nil Below)))
        | inr apart ↦
            elim apart [
              | inl low ↦
                  All-weaker (IsDeclaredSymbol (rules_len g) (end_token g)) Below (listed_in (rules_len g) (end_token g)) (symbols_of g p) (well.symbols p low)
              | inr past ↦
                  let none : symbols_of g p ≡ [] = ap (λ x. option_map_or (λ y. y.symbols) x []) (slice_get_past g.prods p (omega (arith, past))) in
                  subst (All Below) (sym none) (All-nil Below)
            ]
      ]

  pub symbol_at_below : (p k : ℕ) (symbol : GrammarSymbol) → slice_get (symbols_of g p) k ≡ Some symbol → IsSymbolBelow (rules_len g) (tokens_len g) symbol
  symbol_at_below p k symbol is =
      let Below = IsSymbolBelow (rules_len g) (tokens_len g) in
      subst Below (get_or_from_slice_get (symbols_of g p) k symbol symbol is)
      (All-get_or Below (symbols_of g p) k symbol (slice_get_within (symbols_of g p) k symbol is) (all_below p))

  pub symbol_below : {X : Type 0} (f : X → GrammarSymbol) (p k : ℕ) (found : Option X) → option_map f found ≡ slice_get (symbols_of g p) k
      → IfSome found (λ x. IsSymbolBelow (rules_len g) (tokens_len g) (f x))
  symbol_below f p k None is = tt
  symbol_below f p k (Some x) is = symbol_at_below p k (f x) (sym is)
