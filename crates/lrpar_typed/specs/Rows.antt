-- Productions as rows of numbers: the kinds of their symbols.
use Rattle.std.specs.Prelude.{◌≡◌, ℕ, ◌+◌, ◌*◌, ◌<◌, List, [], ◌∷◌, IfOk, Result, Ok, Err, if◌then◌else◌, nat_eq, length, map, slice_index_or}
use Rattle.lrpar_grammar_places.specs.declared.span.PIdx.{PIdx}
use Rattle.lrpar_grammar_places.specs.declared.span.RIdx.{RIdx}
use Rattle.lrpar_grammar_places.specs.declared.span.Symbol.{Symbol}
use Rattle.lrpar_grammar.specs.Grammar.{Grammar, GrammarSymbol, Nonterminal, Terminal}
use Rattle.lrpar_grammar.specs.Symbols.{symbol_of}
use Rattle.lrpar_parse_lexemes.specs.Lexemes.{LexemeParts}
use Rattle.lrpar_parse_lexemes.specs.Views.{token_by}
use Rattle.lrpar_parse.specs.Arguments.{AreArguments, TakesAll, TakesSymbols}
use Rattle.lrpar_parse.specs.ValueArguments.{ValueArguments}
use Rattle.lrpar_parse_run.specs.declared.values.AStackType.{AStackType}
use Rattle.lrpar_parse_run.specs.declared.values.AStackType.TheVariants.{ActionType, Lexeme}

-- the kind of a rule: an odd number
abbrev pub rule_kind : ℕ → ℕ
rule_kind r = 2 * r + 1

-- the kind of a token: an even number, but not 0
abbrev pub token_kind : ℕ → ℕ
token_kind t = 2 * t + 2

-- the kind of a symbol
abbrev pub kind_of : GrammarSymbol → ℕ
kind_of (Nonterminal r) = rule_kind r
kind_of (Terminal t) = token_kind t

-- the kind of an argument; `token` gives the token of a lexeme, and `rule` the rule of a value
abbrev pub kind_by : {X V : Type 0} → (X → ℕ) → (V → ℕ) → AStackType X V → ℕ
kind_by token rule (Lexeme x) = token_kind (token x)
kind_by token rule (ActionType v) = rule_kind (rule v)

-- the kinds of arguments
abbrev pub kinds_by : {X V : Type 0} → (X → ℕ) → (V → ℕ) → List (AStackType X V) → List ℕ
kinds_by token rule [] = []
kinds_by token rule (arg ∷ args) = kind_by token rule arg ∷ kinds_by token rule args

-- the next argument is a value of the rule
abbrev pub IsRuleNext : {X V : Type 0} → (V → ℕ) → ℕ → List (AStackType X V) → Type 0
IsRuleNext rule r [] = ⊥
IsRuleNext rule r (Lexeme x ∷ args) = ⊥
IsRuleNext rule r (ActionType v ∷ args) = rule v ≡ r

-- the next argument was this value of a rule, and the others are left
abbrev pub IsTaken : {L X V : Type 0} → ValueArguments L X V → V → ValueArguments L X V → Type 0
IsTaken old value new = old.left ≡ ActionType value ∷ new.left

-- the next argument was this lexeme, and the others are left
abbrev pub IsLexemeTaken : {L X V : Type 0} → ValueArguments L X V → X → ValueArguments L X V → Type 0
IsLexemeTaken old lexeme new = old.left ≡ Lexeme lexeme ∷ new.left

-- a row up to its first 0
abbrev pub until_zero : List ℕ → List ℕ
until_zero [] = []
until_zero (x ∷ xs) = if nat_eq x 0 then [] else x ∷ until_zero xs

-- row p: the kind of the production's rule, and those of its symbols
abbrev pub row_at : List (List ℕ) → ℕ → List ℕ
row_at rows p = until_zero (slice_index_or rows p [])

-- the first number, or 0
abbrev pub first_of : List ℕ → ℕ
first_of [] = 0
first_of (x ∷ xs) = x

-- all but the first number
abbrev pub rest_of : List ℕ → List ℕ
rest_of [] = []
rest_of (x ∷ xs) = xs

-- the kind of the rule of row p
abbrev pub rule_at : List (List ℕ) → ℕ → ℕ
rule_at rows p = first_of (row_at rows p)

-- the kinds of the symbols of row p
abbrev pub kinds_at : List (List ℕ) → ℕ → List ℕ
kinds_at rows p = rest_of (row_at rows p)

-- row p is production p with this rule and these symbols
pub record IsRow (rows : List (List ℕ)) (p r : ℕ) (symbols : List GrammarSymbol) : Type 0 where
  pub within : p < length rows
  pub same : row_at rows p ≡ rule_kind r ∷ map kind_of symbols

-- a value is of the rule, and what holds of values holds of it, unless it is an error
abbrev pub IsOfRule : {V E : Type 0} → (V → ℕ) → (V → Type 0) → ℕ → Result V E → Type 0
IsOfRule rule holds r (Ok v) = (rule v ≡ r) × holds v
IsOfRule rule holds r (Err e) = Unit {0}

-- what holds of values holds of each value among the arguments
abbrev pub AllHold : {X V : Type 0} → (V → Type 0) → List (AStackType X V) → Type 0
AllHold holds [] = Unit {0}
AllHold holds (Lexeme x ∷ args) = AllHold holds args
AllHold holds (ActionType v ∷ args) = holds v × AllHold holds args

-- the rows are the productions of the grammar but the start production, and this is its start rule
pub record AreRowsOf (rows : List (List ℕ)) (start : ℕ) (g : Grammar) : Type 0 where
  pub all : TakesAll (IsRow rows) g
  pub start_is : g.start ≡ start

-- this row of code is of this rule and these symbols of code
abbrev pub IsRowOf : {S : Type 0} → (S → ℕ) → List ℕ → ℕ → List (Symbol S) → Type 0
IsRowOf index row r symbols = until_zero row ≡ rule_kind r ∷ map kind_of (map (symbol_of index) symbols)

-- the kinds up to the first 0 are those of these symbols of code
abbrev pub AreKindsOf : {S : Type 0} → (S → ℕ) → List ℕ → List (Symbol S) → Type 0
AreKindsOf index row symbols = until_zero row ≡ map kind_of (map (symbol_of index) symbols)

-- the production of code, with this rule and these symbols, is a row
abbrev pub TakesRow : {S : Type 0} → (S → ℕ) → List (List ℕ) → PIdx S → RIdx S → List (Symbol S) → Type 0
TakesRow index rows prod rule symbols = TakesSymbols index (IsRow rows) prod rule symbols

-- the arguments that are left have the kinds of row p
abbrev pub AreOfRow : {S X L V : Type 0} → (S → ℕ) → (X → LexemeParts S) → (V → ℕ) → List (List ℕ) → ℕ → ValueArguments L X V → Type 0
AreOfRow index parts rule rows p args = kinds_by (token_by index parts) rule args.left ≡ kinds_at rows p

-- the value, if there is one, is of the rule of row p
abbrev pub IsOfRow : {V E : Type 0} → (V → ℕ) → List (List ℕ) → ℕ → Result V E → Type 0
IsOfRow rule rows p result = IfOk result (λ v. rule_kind (rule v) ≡ rule_at rows p)

-- the arguments of code fit the production of code, which is a row
abbrev pub FitRow : {S X V E : Type 0} → (S → ℕ) → (X → LexemeParts S) → (V → ℕ) → (V → Type 0) → List (List ℕ) → PIdx S → RIdx S → List (AStackType X (Result V E)) → Type 0
FitRow index parts rule holds rows prod r args = AreArguments (token_by index parts) (IsOfRule rule holds) (IsRow rows (index prod.0) (index r.0)) args
