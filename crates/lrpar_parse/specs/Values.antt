-- Parses to values that a caller's function makes, and that may be errors.
use Rattle.std.specs.Prelude.{◌≡◌, ℕ, List, Option, Some, None, MatchOption, Result, Ok, Err, IsErrAnd, Vec}
use Rattle.lrpar_grammar.specs.Grammar.{Grammar}
use Rattle.lrpar_grammar.specs.Tree.{Tree}
use Rattle.lrpar_grammar_places.specs.Span.{Extent, nowhere}
use Rattle.lrpar_parse_run.specs.Subject.{Subject}
use Rattle.lrpar_parse_run.specs.declared.values.AStackType.{AStackType}
use Rattle.lrpar_parse_run.specs.declared.values.AStackType.TheVariants.{ActionType}
use Rattle.lrpar_parse_errors.specs.declared.errors.LexParseError.{LexParseError}
use Rattle.lrpar_parse.specs.Acted.{ActedTo, IsActedValue}
use Rattle.lrpar_parse.specs.Parse.{ParsesTo}
use Rattle.lrpar_parse.specs.ValueArguments.{ValueArguments, first_failure, given_of}
use Rattle.lrpar_parse.specs.declared.fault.ParseFault.{ParseFault}

-- The value of a production over arguments, or its error: the first error among the arguments; if there is none, what the caller's
-- function may return for the arguments. `gives` says what it may return for a production.
abbrev pub GivesOrCarries : {X V E L P : Type 0} → (ℕ → ValueArguments L X V → Result V E → Type 0) → ℕ → ℕ → L → Extent → List (AStackType X (Result V E)) → P → Result V E → Type 0
GivesOrCarries gives p r lexer span args param result =
    MatchOption (first_failure args) (gives p (record { lexer = lexer; span = span; left = given_of args }) result) (λ e. result ≡ Err e)

-- the values that the caller's function may return for a production over arguments without an error
abbrev pub given_by : {X V E L : Type 0} → (ℕ → ValueArguments L X V → Result V E → Type 0) → L → ℕ → Extent → List (AStackType X V) → V → Type 0
given_by gives lexer p span args value = gives p (record { lexer = lexer; span = span; left = args }) (Ok value)

-- the tree, with nothing before it, folds to the value or the error
abbrev pub IsGivenValue : {X V E L : Type 0} → (X → Extent) → (ℕ → ValueArguments L X V → Result V E → Type 0) → Grammar → L → Tree X → Result V E → Type 0
IsGivenValue span gives g lexer tree value =
    IsActedValue span (GivesOrCarries gives) (λ r v. Unit {0}) g lexer (tt {0}) tree value

-- a tree that folds to a value folds to it by the caller's function alone
abbrev pub FoldsPlainly : {X V E L : Type 0} → (X → Extent) → (ℕ → ValueArguments L X V → Result V E → Type 0) → L → Type 0
FoldsPlainly {X} {V} span gives lexer =
    (g : Grammar) (tree : Tree X) (value : V) → IsGivenValue span gives g lexer tree (Ok value)
    → ActedTo span (given_by gives lexer) nowhere tree (ActionType value)

-- A value, or none, comes out with the rest of the answer. An error comes out alone, and so does what `From` makes of a fault;
-- `converts` says what this may be.
abbrev pub ComesOut : {V E T : Type 0} → (ParseFault → E → Type 0) → Result (Option (Result V E) × T) ParseFault → Result (Option V × T) E → Type 0
ComesOut converts (Ok (None, rest)) result = result ≡ Ok (None, rest)
ComesOut converts (Ok (Some (Ok value), rest)) result = result ≡ Ok (Some value, rest)
ComesOut converts (Ok (Some (Err error), rest)) result = result ≡ Err error
ComesOut converts (Err fault) result = IsErrAnd result (converts fault)

-- a parse to a value or an error, and what comes out of it
abbrev pub ParsesToValue : {V E S L B C Z : Type 0} → Subject B → (List (Result B C) → Type 0) → (ParseFault → E → Type 0) → (Tree B → Result V E → Type 0) → Result (Option V × Vec (LexParseError S L B C) Z) E → Type 0
ParsesToValue {V} {E} {S} {L} {B} {C} {Z} about lexes converts Evaluates result =
    (parsed : Result (Option (Result V E) × Vec (LexParseError S L B C) Z) ParseFault) × ParsesTo about lexes Evaluates parsed × ComesOut converts parsed result
