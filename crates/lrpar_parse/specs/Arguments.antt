-- Arguments of actions: lexemes for tokens, and values for rules.
use Rattle.std.specs.Prelude.{◌≡◌, ◌<◌, ℕ, List, Vec, map}
use Rattle.std.specs.List.{AllZip}
use Rattle.lrpar_grammar_places.specs.Span.{Extent}
use Rattle.lrpar_grammar_places.specs.declared.span.PIdx.{PIdx}
use Rattle.lrpar_grammar_places.specs.declared.span.RIdx.{RIdx}
use Rattle.lrpar_grammar_places.specs.declared.span.Symbol.{Symbol}
use Rattle.lrpar_grammar.specs.Grammar.{Grammar, GrammarSymbol, Nonterminal, Terminal, rule_of, start_prod, symbols_of}
use Rattle.lrpar_grammar.specs.Symbols.{symbol_of}
use Rattle.lrpar_parse_lexemes.specs.Lexemes.{LexemeParts}
use Rattle.lrpar_parse_lexemes.specs.Views.{token_by}
use Rattle.lrpar_parse_run.specs.declared.values.AStackType.{AStackType}
use Rattle.lrpar_parse_run.specs.declared.values.AStackType.TheVariants.{ActionType, Lexeme}

-- An argument for a token is a lexeme of the token, and an argument for a rule is a value with the rule's fact. `token` gives the token of
-- a lexeme, and `fact r v` says that value v has the fact of rule r.
abbrev pub IsArgument : {X V : Type 0} → (X → ℕ) → (ℕ → V → Type 0) → GrammarSymbol → AStackType X V → Type 0
IsArgument token fact (Terminal t) (Lexeme x) = token x ≡ t
IsArgument token fact (Terminal t) (ActionType v) = ⊥
IsArgument token fact (Nonterminal r) (Lexeme x) = ⊥
IsArgument token fact (Nonterminal r) (ActionType v) = fact r v

-- the arguments fit, place by place, the symbols of a production that the actions take
abbrev pub AreArguments : {X V : Type 0} → (X → ℕ) → (ℕ → V → Type 0) → (List GrammarSymbol → Type 0) → List (AStackType X V) → Type 0
AreArguments token fact taken args = (symbols : List GrammarSymbol) × taken symbols × AllZip (IsArgument token fact) symbols args

-- the actions take each production but the start production, with its rule and its symbols
abbrev pub TakesAll : (ℕ → ℕ → List GrammarSymbol → Type 0) → Grammar → Type 0
TakesAll taken g = (p : ℕ) → p < start_prod g → taken p (rule_of g p) (symbols_of g p)

-- A production by its number and its rule as they are stored. `index` gives the number of a value of the storage type `S`.
module _ {S : Type 0} (index : S → ℕ) where
  -- the actions take the production with these symbols
  abbrev pub TakesSymbols : (ℕ → ℕ → List GrammarSymbol → Type 0) → PIdx S → RIdx S → List (Symbol S) → Type 0
  TakesSymbols taken prod rule symbols = taken (index prod.0) (index rule.0) (map (symbol_of index) symbols)

  -- the arguments fit the production, as the actions take it; `parts` gives the parts of a lexeme
  abbrev pub FitProduction : {A X V : Type 0} → (X → LexemeParts S) → (A → ℕ → V → Type 0) → (A → ℕ → ℕ → List GrammarSymbol → Type 0) → A → PIdx S → RIdx S → List (AStackType X V) → Type 0
  FitProduction parts fact taken actions prod rule args = AreArguments (token_by index parts) (fact actions) (taken actions (index prod.0) (index rule.0)) args

  -- the production's value over these arguments may be this one
  abbrev pub Answers : {L A P V Z : Type 0} → (ℕ → ℕ → L → Extent → List A → P → V → Type 0) → PIdx S → RIdx S → L → Extent → Vec A Z → P → V → Type 0
  Answers answers prod rule lexer span args param value = answers (index prod.0) (index rule.0) lexer span args.items param value
