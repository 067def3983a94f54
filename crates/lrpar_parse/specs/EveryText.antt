-- What a recoverer that always repairs gives: each text has a value, and each error lists a repair.
use Rattle.std.specs.declared.alloc.Global.{Global}
use Rattle.std.specs.Prelude.{◌≡◌, ◌≢◌, ◌<◌, ℕ, List, [], ◌∷◌, All, map, MatchOption, Option, IsSome, Result, IfOk, Vec}
use Rattle.lrpar_grammar_places.specs.Span.{Extent}
use Rattle.lrpar_grammar_places.specs.declared.span.RIdx.{RIdx}
use Rattle.lrpar_grammar.specs.Sentence.{IsValidList, LexemeFacts}
use Rattle.lrpar_grammar.specs.Tree.{Tree}
use Rattle.lrpar_table_check.specs.Checked.{Checked, IsChecked}
use Rattle.lrpar_table_stacks.specs.Stack.{IsStack}
use Rattle.lrpar_parse_errors.specs.declared.errors.LexParseError.{LexParseError}
use Rattle.lrpar_parse_errors.specs.declared.errors.LexParseError.TheVariants.{LexError, ParseError}
use Rattle.lrpar_parse_lexemes.specs.Lexemes.{LexemeParts}
use Rattle.lrpar_parse_lexemes.specs.Views.{span_by, token_by}
use Rattle.lrpar_parse_repair.specs.AlwaysRepairs.{AlwaysRepairs}
use Rattle.lrpar_parse_repair.specs.Asked.{Asked, allowed_at}
use Rattle.lrpar_parse_repair.specs.Sequences.{PlainStep}
use Rattle.lrpar_parse_run.specs.Folds.{Folds}
use Rattle.lrpar_parse_run.specs.Made.{made_by}
use Rattle.lrpar_parse_run.specs.Nodes.{IsNonterm, IsTerm}
use Rattle.lrpar_parse_run.specs.RepairRun.{RepairRun, RepairStop}
use Rattle.lrpar_parse_run.specs.Subject.{Subject}
use Rattle.lrpar_parse_run.specs.declared.values.AStackType.{AStackType}
use Rattle.lrpar_parse.specs.Acted.{IsActedValue}
use Rattle.lrpar_parse.specs.Lexed.{first_error}
use Rattle.lrpar_parse.specs.Parse.{ParsesTo, ParsesToErrors}
use Rattle.lrpar_parse.specs.Parser.{Parser, subject}
use Rattle.lrpar_parse.specs.ValueArguments.{ValueArguments}
use Rattle.lrpar_parse.specs.Values.{IsGivenValue, ParsesToValue}
use Rattle.lrpar_parse.specs.declared.fault.ParseFault.{ParseFault}

-- Over a checked table over which the recoverer always repairs, a run over a valid list, from a stack of the table, lists a sequence at
-- each error point, and accepts.
abbrev pub AcceptsEveryText : {X : Type 0} → (X → LexemeFacts) → (Asked X → List (List PlainStep) → Type 0) → Type 0
AcceptsEveryText {X} facts allows =
    (d : Checked) (k : ℕ) (lexemes : List X) (st : List ℕ) (stops : List RepairStop) (consumed : Option (List X)) (prods : List ℕ)
    → AlwaysRepairs (λ x. (facts x).token) allows d → IsChecked d → 0 < k → IsValidList d.grammar (map facts lexemes) → IsStack d.table st
    → RepairRun facts (allowed_at allows d k) k d.grammar d.table lexemes st 0 stops consumed prods
    → All (λ s. s.listed ≢ []) stops × IsSome consumed

-- a parse error that lists a repair
abbrev pub ListsRepair : {S L B C : Type 0} → LexParseError S L B C → Type 0
ListsRepair (LexError error) = ⊥
ListsRepair (ParseError failure) = failure.repairs ≢ []

-- The lexer allows an answer. If it has no lexing error, each error of the parse lists a repair, and its answer has a value; otherwise
-- the first lexing error is the only error. `IsWhole` says that an answer of the parse has a value.
abbrev pub RepairsText : {T S L B C F : Type 0} → (List (Result B C) → Type 0) → (T → List (LexParseError S L B C)) → (T → Type 0) → Result T F → Type 0
RepairsText {B = B} {C = C} lexes errors_of IsWhole result =
    IfOk result (λ answer. (lexed : List (Result B C)) × lexes lexed
    × MatchOption (first_error lexed) (All ListsRepair (errors_of answer) × IsWhole answer) (λ error. errors_of answer ≡ LexError error ∷ []))

-- a parse to errors and a value: unless the text has a lexing error, each error lists a repair, and there is a value
abbrev pub HasValueOfText : {V S L B C Z F : Type 0} → (List (Result B C) → Type 0) → Result (Option V × Vec (LexParseError S L B C) Z) F → Type 0
HasValueOfText lexes result = RepairsText lexes (λ answer. answer.1.items) (λ answer. IsSome answer.0) result

-- a parse to errors alone: unless the text has a lexing error, each error lists a repair
abbrev pub HasRepairsOfText : {S L B C Z F : Type 0} → (List (Result B C) → Type 0) → Result (Vec (LexParseError S L B C) Z) F → Type 0
HasRepairsOfText lexes result = RepairsText lexes (λ errors. errors.items) (λ errors. Unit {0}) result

-- Each result that a parse to errors and a value may have is one by `HasValueOfText`. `S` is the storage type, and `L` the type of the
-- types of a lexer.
abbrev pub EachHasValue : {V B C : Type 0} → (S L : Type 0) → Subject B → (List (Result B C) → Type 0) → (Tree B → V → Type 0) → Type 0
EachHasValue {V} {B} {C} S L about lexes Evaluates =
    (result : Result (Option V × Vec (LexParseError S L B C) Global) ParseFault) → ParsesTo about lexes Evaluates result → HasValueOfText lexes result

-- Each result that a parse to a value or an error may have is one by `HasValueOfText`. `S` is the storage type, and `L` the type of the
-- types of a lexer.
abbrev pub EachOutcomeHasValue : {V E B C : Type 0} → (S L : Type 0) → Subject B → (List (Result B C) → Type 0) → (ParseFault → E → Type 0) → (Tree B → Result V E → Type 0) → Type 0
EachOutcomeHasValue {V} {E} {B} {C} S L about lexes converts Evaluates =
    (result : Result (Option V × Vec (LexParseError S L B C) Global) E) → ParsesToValue about lexes converts Evaluates result → HasValueOfText lexes result

-- Each result that a parse to errors alone may have is one by `HasRepairsOfText`. `S` is the storage type, and `L` the type of the types
-- of a lexer.
abbrev pub EachHasRepairs : {B C : Type 0} → (S L : Type 0) → Subject B → (List (Result B C) → Type 0) → Type 0
EachHasRepairs {B} {C} S L about lexes =
    (result : Result (Vec (LexParseError S L B C) Global) ParseFault) → ParsesToErrors about lexes result → HasRepairsOfText lexes result

-- Of a parser: if its recoverer always repairs over its table, each text has a value. `index` gives the number of a value of the storage
-- type `S`, `parts` the parts of a lexeme, `allows` says which answers the recoverer may give, and `lexes` which answers the lexer allows.
module _ {S X R C : Type 0} (index : S → ℕ) (parts : X → LexemeParts S) (allows : R → Asked X → List (List PlainStep) → Type 0) (parser : Parser R) (L : Type 0) (lexes : List (Result X C) → Type 0) where
  -- the recoverer always repairs
  abbrev RepairsAlways : Type 0
  RepairsAlways = AlwaysRepairs (token_by index parts) (allows parser.recoverer) parser.checked

  -- each text has a tree, if the recoverer always repairs
  abbrev pub EachTextHasTree : Type 0
  EachTextHasTree = RepairsAlways → EachHasValue S L (subject index parts allows parser) lexes (Folds IsTerm (IsNonterm index) parser.checked.grammar)

  -- each error of a parse for errors alone lists a repair, if the recoverer always repairs
  abbrev pub EachTextHasRepairs : Type 0
  EachTextHasRepairs = RepairsAlways → EachHasRepairs S L (subject index parts allows parser) lexes

  -- each text has a value that two functions make of its tree, if the recoverer always repairs
  abbrev pub EachTextHasMapped : {V Y : Type 0} → (X → V → Type 0) → (RIdx S → Vec V Y → V → Type 0) → Type 0
  EachTextHasMapped fterm fnonterm =
      RepairsAlways → EachHasValue S L (subject index parts allows parser) lexes (Folds fterm (made_by index fnonterm) parser.checked.grammar)

  -- each text has a value that actions make of its tree, if the recoverer always repairs
  abbrev pub EachTextHasActed : {V K P : Type 0} → (ℕ → ℕ → K → Extent → List (AStackType X V) → P → V → Type 0) → (ℕ → V → Type 0) → K → P → Type 0
  EachTextHasActed answers fact lexer param =
      RepairsAlways → EachHasValue S L (subject index parts allows parser) lexes (IsActedValue (span_by parts) answers fact parser.checked.grammar lexer param)

  -- each text has a value that a caller's function makes of its tree, if the recoverer always repairs and the function returns no error
  abbrev pub EachTextHasGiven : {V E K : Type 0} → (ParseFault → E → Type 0) → (ℕ → ValueArguments K X V → Result V E → Type 0) → K → Type 0
  EachTextHasGiven converts gives lexer =
      RepairsAlways → EachOutcomeHasValue S L (subject index parts allows parser) lexes converts (IsGivenValue (span_by parts) gives parser.checked.grammar lexer)
