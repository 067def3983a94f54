-- What the calculator takes and makes, over `Expr: Expr '+' Term | Term; Term: Term '*' Factor | Factor; Factor: 'INT';`.
use Rattle.std.specs.Prelude.{◌≡◌, ◌⊎◌, ℕ, List, [], ◌∷◌}
use Rattle.lrpar_grammar.specs.Grammar.{GrammarSymbol, Nonterminal, Terminal}
use Rattle.test_parts.specs.declared.calculator.Value.{Value}
use Rattle.test_parts.specs.declared.calculator.Value.TheVariants.{Sum, Product, Number}

-- a production by its number, its rule and its symbols: the rules are 1 to 3, and the tokens + 0, * 1, INT 2
abbrev pub IsTaken : ℕ → ℕ → List GrammarSymbol → Type 0
IsTaken p r symbols =
    ((p ≡ 0) × (r ≡ 1) × (symbols ≡ Nonterminal 1 ∷ (Terminal 0 ∷ (Nonterminal 2 ∷ []))))
    ⊎ ((p ≡ 1) × (r ≡ 1) × (symbols ≡ Nonterminal 2 ∷ []))
    ⊎ ((p ≡ 2) × (r ≡ 2) × (symbols ≡ Nonterminal 2 ∷ (Terminal 1 ∷ (Nonterminal 3 ∷ []))))
    ⊎ ((p ≡ 3) × (r ≡ 2) × (symbols ≡ Nonterminal 3 ∷ []))
    ⊎ ((p ≡ 4) × (r ≡ 3) × (symbols ≡ Terminal 2 ∷ []))

-- each rule has a kind of value of its own
abbrev pub IsOfKind : ℕ → Value → Type 0
IsOfKind r (Sum n) = r ≡ 1
IsOfKind r (Product n) = r ≡ 2
IsOfKind r (Number n) = r ≡ 3
