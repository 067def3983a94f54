-- Parses to values of known kinds.
use Rattle.std.specs.Prelude.{◌≡◌, ℕ, IfSome, List, Option, Result, Vec}
use Rattle.lrpar_grammar.specs.Grammar.{Grammar}
use Rattle.lrpar_grammar.specs.Tree.{Tree}
use Rattle.lrpar_grammar_places.specs.Span.{Extent}
use Rattle.lrpar_parse_errors.specs.declared.errors.LexParseError.{LexParseError}
use Rattle.lrpar_parse_lexemes.specs.Lexemes.{LexemeParts}
use Rattle.lrpar_parse_lexemes.specs.Views.{span_by}
use Rattle.lrpar_parse_repair.specs.Asked.{Asked}
use Rattle.lrpar_parse_repair.specs.Sequences.{PlainStep}
use Rattle.lrpar_parse.specs.Acted.{IsActedValue}
use Rattle.lrpar_parse.specs.Parser.{Parser, subject}
use Rattle.lrpar_parse.specs.ValueArguments.{ValueArguments}
use Rattle.lrpar_parse.specs.Values.{GivesOrCarries, ParsesToValue}
use Rattle.lrpar_parse.specs.declared.fault.ParseFault.{ParseFault}
use Rattle.lrpar_typed.specs.Rows.{AreRowsOf, IsOfRule}

-- the tree, with nothing before it, folds to the value, which is of the start rule and of which the fact holds, or to the error
abbrev pub IsTypedValue : {X V E L : Type 0} → (X → Extent) → (V → ℕ) → (V → Type 0) → (ℕ → ValueArguments L X V → Result V E → Type 0) → Grammar → L → Tree X → Result V E → Type 0
IsTypedValue span rule holds gives g lexer tree value =
    IsActedValue span (GivesOrCarries gives) (IsOfRule rule holds) g lexer (tt {0}) tree value

-- the rows are the productions of the parser's grammar, and this is its start rule
abbrev pub HasRows : {R : Type 0} → List (List ℕ) → ℕ → Parser R → Type 0
HasRows rows start parser = AreRowsOf rows start parser.checked.grammar

-- a parse to such a value
abbrev pub GetsTyped : {S X R C : Type 0} → (S → ℕ) → (X → LexemeParts S) → (R → Asked X → List (List PlainStep) → Type 0) → Parser R → (List (Result X C) → Type 0)
    → {V E K L Z : Type 0} → (ParseFault → E → Type 0) → (V → ℕ) → (V → Type 0) → (ℕ → ValueArguments K X V → Result V E → Type 0) → K → Result (Option V × Vec (LexParseError S L X C) Z) E → Type 0
GetsTyped index parts allows parser lexes converts rule holds gives lexer result =
    ParsesToValue (subject index parts allows parser) lexes converts (IsTypedValue (span_by parts) rule holds gives parser.checked.grammar lexer) result

-- the value, if there is one, is of the start rule
abbrev pub IsOfStart : {V A : Type 0} → (V → ℕ) → ℕ → Option V × A → Type 0
IsOfStart rule start answer = IfSome answer.0 (λ v. rule v ≡ start)

-- what holds of values holds of the value, if there is one
abbrev pub ValueHolds : {V A : Type 0} → (V → Type 0) → Option V × A → Type 0
ValueHolds holds answer = IfSome answer.0 holds
