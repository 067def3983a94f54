-- Entries of a stack that are lexemes or values.
use Rattle.std.specs.Prelude.{◌≡◌, ℕ, List}
use Rattle.std.specs.List.{AllZip}
use Rattle.lrpar_grammar.specs.Grammar.{GrammarSymbol, Nonterminal, Terminal}
use Rattle.lrpar_parse_run.specs.declared.values.AStackType.{AStackType}
use Rattle.lrpar_parse_run.specs.declared.values.AStackType.TheVariants.{ActionType, Lexeme}

-- a lexeme suits a token, and a value suits a rule
abbrev pub SuitsSymbol : {X V : Type 0} → GrammarSymbol → AStackType X V → Type 0
SuitsSymbol (Terminal t) (Lexeme x) = Unit {0}
SuitsSymbol (Terminal t) (ActionType v) = ⊥
SuitsSymbol (Nonterminal r) (Lexeme x) = ⊥
SuitsSymbol (Nonterminal r) (ActionType v) = Unit {0}

-- the entry is that lexeme
abbrev pub IsLexemeEntry : {X V : Type 0} → X → AStackType X V → Type 0
IsLexemeEntry x e = e ≡ Lexeme x

-- the values of an entry: those of its lexeme, or the entry's own value
abbrev pub Gives : {X V : Type 0} → (X → V → Type 0) → AStackType X V → V → Type 0
Gives leaf (Lexeme x) v = leaf x v
Gives leaf (ActionType w) v = w ≡ v

-- the entry is a value that the rule may have over values of the entries `es`
pub record IsMadeEntry {X V : Type 0} (leaf : X → V → Type 0) (node : ℕ → List V → V → Type 0) (r : ℕ) (es : List (AStackType X V)) (e : AStackType X V) : Type 0 where
  pub values : List V
  pub given : AllZip (Gives leaf) es values
  pub value : V
  pub made : node r values value
  pub is : e ≡ ActionType value

-- the entry is a value
abbrev pub HasValueEntry : {X V : Type 0} → AStackType X V → Type 0
HasValueEntry (Lexeme x) = ⊥
HasValueEntry (ActionType v) = Unit {0}
