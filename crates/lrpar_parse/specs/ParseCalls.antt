-- What the calls of a parser return. `index` gives the number of a value of the storage type, `parts` the parts of a lexeme, `allows` says
-- which answers the recoverer may give, and `lexes` which answers the lexer allows.
use Rattle.std.specs.Prelude.{ℕ, List, Option, Result, Vec}
use Rattle.lrpar_grammar_places.specs.Facts.{LexemeFacts}
use Rattle.lrpar_grammar_places.specs.Span.{Extent}
use Rattle.lrpar_grammar_places.specs.declared.span.RIdx.{RIdx}
use Rattle.lrpar_grammar.specs.Tree.{Tree}
use Rattle.lrpar_parse_errors.specs.declared.errors.LexParseError.{LexParseError}
use Rattle.lrpar_parse_lexemes.specs.Lexemes.{LexemeParts}
use Rattle.lrpar_parse_lexemes.specs.Views.{facts_by, span_by}
use Rattle.lrpar_parse_repair.specs.Asked.{Asked}
use Rattle.lrpar_parse_repair.specs.Sequences.{PlainStep}
use Rattle.lrpar_parse_flat_trees.specs.Flat.{IsTreeBy}
use Rattle.lrpar_parse_run.specs.Building.{Building}
use Rattle.lrpar_parse_run.specs.End.{IsOfTree}
use Rattle.lrpar_parse_run.specs.Folds.{Folds}
use Rattle.lrpar_parse_run.specs.Made.{made_by}
use Rattle.lrpar_parse_run.specs.Nodes.{IsNonterm, IsTerm}
use Rattle.lrpar_parse_run.specs.TreeAnswer.{IsTreeAnswer}
use Rattle.lrpar_parse_run.specs.declared.values.AStackType.{AStackType}
use Rattle.lrpar_parse_trees.specs.declared.node.Node.{Node}
use Rattle.lrpar_parse.specs.Acted.{IsActedValue}
use Rattle.lrpar_parse.specs.ExpectedAnswer.{Expects}
use Rattle.lrpar_parse.specs.Parse.{ParsesTo, ParsesToErrors}
use Rattle.lrpar_parse.specs.Parser.{Parser, subject}
use Rattle.lrpar_parse.specs.ValueArguments.{ValueArguments}
use Rattle.lrpar_parse.specs.Values.{IsGivenValue, ParsesToValue}
use Rattle.lrpar_parse.specs.declared.expected.Expected.{Expected}
use Rattle.lrpar_parse.specs.declared.fault.ParseFault.{ParseFault}

-- the call returns the tokens that may come next, or a fault
abbrev pub ExpectsNext : {S X R C : Type 0} → (S → ℕ) → (X → LexemeParts S) → Parser R → (List (Result X C) → Type 0) → Result (Expected S C) ParseFault → Type 0
ExpectsNext index parts parser lexes result = Expects index (facts_by index parts) parser.checked lexes result

-- the answer of the run over these lexemes: an entry that represents the tree, if the run accepts, and the errors
abbrev pub RunsTo : {S X R L C E Z : Type 0} → (S → ℕ) → (X → LexemeParts S) → (R → Asked X → List (List PlainStep) → Type 0) → Parser R → Building X E → List X → Option E × Vec (LexParseError S L X C) Z → Type 0
RunsTo index parts allows parser builds lexemes = IsTreeAnswer (subject index parts allows parser) builds lexemes

module _ {S X R C : Type 0} (index : S → ℕ) (parts : X → LexemeParts S) (allows : R → Asked X → List (List PlainStep) → Type 0) (parser : Parser R) (lexes : List (Result X C) → Type 0) where
  -- a parse to a value that two functions make of the tree, one for lexemes and one for rules
  abbrev pub GetsMapped : {V L Y Z : Type 0} → (X → V → Type 0) → (RIdx S → Vec V Y → V → Type 0) → Result (Option V × Vec (LexParseError S L X C) Z) ParseFault → Type 0
  GetsMapped fterm fnonterm result =
      ParsesTo (subject index parts allows parser) lexes (Folds fterm (made_by index fnonterm) parser.checked.grammar) result

  -- a parse to the tree
  abbrev pub GetsTree : {L Z : Type 0} → Result (Option (Node X S) × Vec (LexParseError S L X C) Z) ParseFault → Type 0
  GetsTree result = ParsesTo (subject index parts allows parser) lexes (Folds IsTerm (IsNonterm index) parser.checked.grammar) result

  -- a parse to the tree, with the parts of each lexeme in its place
  abbrev pub GetsSyntaxTree : {L Z : Type 0} → Result (Option (Tree LexemeFacts) × Vec (LexParseError S L X C) Z) ParseFault → Type 0
  GetsSyntaxTree result = ParsesTo (subject index parts allows parser) lexes (IsTreeBy (facts_by index parts)) result

  -- a parse to an entry that represents the tree
  abbrev pub GetsEntry : {E L Z : Type 0} → Building X E → Result (Option E × Vec (LexParseError S L X C) Z) ParseFault → Type 0
  GetsEntry builds result = ParsesTo (subject index parts allows parser) lexes (IsOfTree builds parser.checked) result

  -- a parse to a value that actions make of the tree
  abbrev pub GetsActed : {V K P L Z : Type 0} → (ℕ → ℕ → K → Extent → List (AStackType X V) → P → V → Type 0) → (ℕ → V → Type 0) → K → P → Result (Option V × Vec (LexParseError S L X C) Z) ParseFault → Type 0
  GetsActed answers fact lexer param result =
      ParsesTo (subject index parts allows parser) lexes (IsActedValue (span_by parts) answers fact parser.checked.grammar lexer param) result

  -- a parse to a value that a caller's function makes of the tree, or to its error
  abbrev pub GetsGiven : {V E K L Z : Type 0} → (ParseFault → E → Type 0) → (ℕ → ValueArguments K X V → Result V E → Type 0) → K → Result (Option V × Vec (LexParseError S L X C) Z) E → Type 0
  GetsGiven converts gives lexer result =
      ParsesToValue (subject index parts allows parser) lexes converts (IsGivenValue (span_by parts) gives parser.checked.grammar lexer) result

  -- a parse for the errors alone
  abbrev pub GetsErrors : {L Z : Type 0} → Result (Vec (LexParseError S L X C) Z) ParseFault → Type 0
  GetsErrors result = ParsesToErrors (subject index parts allows parser) lexes result
