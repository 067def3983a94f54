-- Symbols and productions of the code, by their numbers.
use Rattle.std.specs.Prelude.{◌<◌, ◌+◌, ℕ, List, map}
use Rattle.lrpar_grammar_places.specs.declared.span.PIdx.{PIdx}
use Rattle.lrpar_grammar_places.specs.declared.span.RIdx.{RIdx}
use Rattle.lrpar_grammar_places.specs.declared.span.Symbol.{Symbol}
use Rattle.lrpar_grammar_places.specs.declared.span.Symbol.TheVariants.{Rule, Token}
use Rattle.lrpar_grammar_reader.specs.Grammar.{GrammarSymbol, IsDeclaredSymbol, Nonterminal, Terminal}

-- a symbol by the number in it
abbrev pub symbol_of : {S : Type 0} → (S → ℕ) → Symbol S → GrammarSymbol
symbol_of index (Rule r) = Nonterminal (index r.0)
symbol_of index (Token t) = Terminal (index t.0)

-- the numbers of productions
abbrev pub prod_numbers : {S : Type 0} → (S → ℕ) → List (PIdx S) → List ℕ
prod_numbers index prods = map (λ p. index p.0) prods

-- the rule is one of this number of listed rules, which come after the added one
abbrev pub IsRuleAmong : {S : Type 0} → (S → ℕ) → ℕ → RIdx S → Type 0
IsRuleAmong index rules rule = (0 < index rule.0) × (index rule.0 < rules + 1)

-- the symbol is among these numbers of listed rules and tokens
abbrev pub IsSymbolAmong : {S : Type 0} → (S → ℕ) → ℕ → ℕ → Symbol S → Type 0
IsSymbolAmong index rules tokens symbol = IsDeclaredSymbol (rules + 1) tokens (symbol_of index symbol)

-- this many rules, tokens and productions, with what a grammar adds to them, can be numbered below `limit`
abbrev pub AreBelow : ℕ → ℕ → ℕ → ℕ → Type 0
AreBelow limit rules tokens prods = (rules < limit) × (tokens < limit) × (prods < limit)
