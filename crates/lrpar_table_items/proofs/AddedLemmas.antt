-- The start rule `^` of the augmented grammar is on no right side.
use Rattle.std.proofs.Common.{◌≡◌, ◌<◌, sym, ap, subst, inl, inr, arith, ℕ, List, [], ◌∷◌, All, drop}
use Rattle.std.specs.Option.{option_map_or}
use Rattle.std.proofs.lemmas.Bool.{cases_order}
use Rattle.std.proofs.lemmas.List.Elements.{All-cons, All-drop, All-head, All-nil, All-weaker}
use Rattle.std.proofs.lemmas.Option.{slice_get_past}
use Rattle.lrpar_grammar.specs.Grammar.{Grammar, GrammarSymbol, IsDeclaredSymbol, IsWellFormed, Nonterminal, Terminal, end_token, rules_len, start_prod, symbols_of}

-- the symbol isn't the start rule `^`
abbrev IsNotAdded : GrammarSymbol → Type 0
IsNotAdded (Nonterminal r) = 0 < r
IsNotAdded (Terminal t) = Unit {0}

listed_not_added : (rules tokens : ℕ) (symbol : GrammarSymbol) → IsDeclaredSymbol rules tokens symbol → IsNotAdded symbol
listed_not_added rules tokens (Nonterminal r) listed = listed.0
listed_not_added rules tokens (Terminal t) listed = tt

module _ (g : Grammar) (well : IsWellFormed g) where
  -- a rule on a right side isn't the start rule `^`
  listed_rules : (p : ℕ) → All IsNotAdded (symbols_of g p)
  listed_rules p =
      elim (cases_order p (start_prod g)) [
        | inl last ↦
            subst (λ n. All IsNotAdded (symbols_of g n)) (sym last)
            (subst (All IsNotAdded) (sym well.last_symbols) (All-cons IsNotAdded (Nonterminal g.start) [] well.start_added (All-nil IsNotAdded)))
        | inr apart ↦
            elim apart [
              | inl low ↦
                  All-weaker (IsDeclaredSymbol (rules_len g) (end_token g)) IsNotAdded (listed_not_added (rules_len g) (end_token g)) (symbols_of g p)
                  (well.symbols p low)
              | inr past ↦
                  let none : symbols_of g p ≡ [] = ap (λ x. option_map_or (λ y. y.symbols) x []) (slice_get_past g.prods p (omega (arith, past))) in
                  subst (All IsNotAdded) (sym none) (All-nil IsNotAdded)
            ]
      ]

  pub rule_after_listed : (p k r : ℕ) (rest : List GrammarSymbol) → drop k (symbols_of g p) ≡ Nonterminal r ∷ rest → 0 < r
  rule_after_listed p k r rest is =
      All-head IsNotAdded (Nonterminal r) rest (subst (All IsNotAdded) is (All-drop IsNotAdded k (symbols_of g p) (listed_rules p)))
