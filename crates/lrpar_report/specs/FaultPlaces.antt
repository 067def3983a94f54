-- The places of faults: the spans of the labels of their reports.
use Rattle.std.specs.Prelude.{◌≡◌, ◌<◌, ◌≤◌, ◌+◌, ◌∷◌, ℕ, List, [], length}
use Rattle.std.specs.Str.{IsCharBoundary}
use Rattle.lrpar_grammar_places.specs.Lines.{line_of}
use Rattle.lrpar_grammar_places.specs.Span.{Extent}
use Rattle.lrpar_grammar_reader.specs.declared.parts.GrammarFault.{GrammarFault}
use Rattle.lrpar_grammar_reader.specs.declared.parts.GrammarFault.TheVariants.{BadStart, BadSymbol, Memory, NoRules, RepeatedEpp, RepeatedStart, StorageTooSmall, Syntax, TokenIsRule, UnknownRule, UnknownToken}
use Rattle.lrpar_grammar_yacc.specs.declared.file.YaccFileFault.{YaccFileFault}
use Rattle.lrpar_grammar_yacc.specs.declared.file.YaccFileFault.TheVariants.{Declared, Memory as FileMemory, Text, UnknownToken as UnknownName}
use Rattle.lrpar_grammar_yacc.specs.declared.faults.YaccFault.{YaccFault}
use Rattle.lrpar_grammar_yacc.specs.declared.faults.YaccFault.TheVariants.{BadNumber, Memory as YaccMemory, MidRuleAction, RepeatedPrec, RepeatedPrecedence}
use Rattle.lrpar_grammar_yacc.specs.declared.parts.YaccKind.{YaccKind}
use Rattle.lrpar_grammar_yacc.specs.Erasure.{erasure}
use Rattle.lrpar_lexer.specs.RuleTexts.{NamesLine}
use Rattle.lrpar_lexer.specs.declared.rules.RulesFault.{RulesFault}
use Rattle.lrpar_lexer_lrlex.specs.declared.fault.LrlexFault.{LrlexFault}
use Rattle.lrpar_lexer_lrlex.specs.declared.fault.LrlexFault.TheVariants.{Declaration, Flag, Header, Memory as LrlexMemory, NoName, NoPattern, NoRules as NoRulesSign, OpenQuote, OpenState, Pattern, RepeatedState, StateName, UnknownState, UnknownToken as UnknownNameOfToken}
use Rattle.lrpar_parse_errors.specs.declared.errors.LexParseError.{LexParseError}
use Rattle.lrpar_parse_errors.specs.declared.errors.LexParseError.TheVariants.{LexError, ParseError}
use Rattle.lrpar_report_lines.specs.Labels.{label_spans}
use Rattle.lrpar_report_lines.specs.Places.{FaultPlace, IsFirstPlace, IsNextBoundary}
use Rattle.lrpar_report_lines.specs.declared.reports.Report.{Report}

-- there is one span, and the fact holds of it
abbrev pub IsOne : (Extent → Type 0) → List Extent → Type 0
IsOne IsSuch spans = (span : Extent) × (spans ≡ span ∷ []) × IsSuch span

-- a span that starts at the byte, if that is a boundary of characters
abbrev pub StartsAt : List ℕ → ℕ → Extent → Type 0
StartsAt text byte span = IsCharBoundary text byte → span.start ≡ byte

-- The spans of a fault in a grammar text: that of the name in question, or one that starts at the byte from which the text isn't a
-- grammar's. Other faults have none.
abbrev pub AreGrammarSpans : List ℕ → GrammarFault → List Extent → Type 0
AreGrammarSpans text (Syntax byte) spans = IsOne (StartsAt text byte) spans
AreGrammarSpans text (UnknownRule span) spans = spans ≡ span ∷ []
AreGrammarSpans text (UnknownToken span) spans = spans ≡ span ∷ []
AreGrammarSpans text (TokenIsRule span) spans = spans ≡ span ∷ []
AreGrammarSpans text (RepeatedStart span) spans = spans ≡ span ∷ []
AreGrammarSpans text (RepeatedEpp span) spans = spans ≡ span ∷ []
AreGrammarSpans text BadSymbol spans = spans ≡ []
AreGrammarSpans text BadStart spans = spans ≡ []
AreGrammarSpans text NoRules spans = spans ≡ []
AreGrammarSpans text StorageTooSmall spans = spans ≡ []
AreGrammarSpans text Memory spans = spans ≡ []

-- a span that starts where another one does, and ends in it
pub record IsStartOf (whole : Extent) (span : Extent) : Type 0 where
  pub start : span.start ≡ whole.start
  pub end : span.end ≤ whole.end

-- the spans of a fault of what a grammar text doesn't have: that of the name or number in question, or the start of an action
abbrev pub AreDeclaredSpans : YaccFault → List Extent → Type 0
AreDeclaredSpans (RepeatedPrec span) spans = spans ≡ span ∷ []
AreDeclaredSpans (RepeatedPrecedence span) spans = spans ≡ span ∷ []
AreDeclaredSpans (MidRuleAction span) spans = IsOne (IsStartOf span) spans
AreDeclaredSpans (BadNumber span) spans = spans ≡ span ∷ []
AreDeclaredSpans YaccMemory spans = spans ≡ []

-- The spans of a fault in a `.y` file: those of a fault of what a grammar text doesn't have, or of a fault of the erased file; or that of
-- the name in question.
abbrev pub AreYaccSpans : YaccKind → List ℕ → YaccFileFault → List Extent → Type 0
AreYaccSpans kind text (Declared fault) spans = AreDeclaredSpans fault spans
AreYaccSpans kind text (Text fault) spans = AreGrammarSpans (erasure kind text) fault spans
AreYaccSpans kind text (UnknownName span) spans = spans ≡ span ∷ []
AreYaccSpans kind text FileMemory spans = spans ≡ []

-- The spans of a fault in a `.l` file: its place, if it has one. Of `%grmtools` that isn't closed, whose place goes to the end of the text,
-- it is the start.
abbrev pub AreLrlexSpans : LrlexFault → List Extent → Type 0
AreLrlexSpans (Header span) spans = IsOne (IsStartOf span) spans
AreLrlexSpans (Flag span) spans = spans ≡ span ∷ []
AreLrlexSpans (Declaration span) spans = spans ≡ span ∷ []
AreLrlexSpans (StateName span) spans = spans ≡ span ∷ []
AreLrlexSpans (RepeatedState span) spans = spans ≡ span ∷ []
AreLrlexSpans (OpenState span) spans = spans ≡ span ∷ []
AreLrlexSpans (NoPattern span) spans = spans ≡ span ∷ []
AreLrlexSpans (OpenQuote span) spans = spans ≡ span ∷ []
AreLrlexSpans (NoName span) spans = spans ≡ span ∷ []
AreLrlexSpans (UnknownState span) spans = spans ≡ span ∷ []
AreLrlexSpans (UnknownNameOfToken span) spans = spans ≡ span ∷ []
AreLrlexSpans (Pattern span error) spans = spans ≡ span ∷ []
AreLrlexSpans NoRulesSign spans = spans ≡ []
AreLrlexSpans LrlexMemory spans = spans ≡ []

-- the text has a line of this number, counted from 1
abbrev pub HasLine : List ℕ → ℕ → Type 0
HasLine text number = (0 < number) × (number ≤ line_of text (length text))

-- a span that starts and ends on the line of this number, if the text has that line
pub record IsOnLine (text : List ℕ) (number : ℕ) (span : Extent) : Type 0 where
  pub start : HasLine text number → line_of text span.start ≡ number
  pub end : HasLine text number → line_of text span.end ≡ number

-- a span that is part of another one
pub record IsWithin (whole : Extent) (span : Extent) : Type 0 where
  pub start : whole.start ≤ span.start
  pub ordered : span.start ≤ span.end
  pub end : span.end ≤ whole.end

-- the spans of a fault in the rules of a lexer: one on the line of the fault
abbrev pub AreRulesSpans : List ℕ → RulesFault → List Extent → Type 0
AreRulesSpans text fault spans = NamesLine (λ number _. IsOne (IsOnLine text number) spans) fault

-- a character: from the boundary to which a byte is moved to the next one, or the empty part at the text's end
pub record IsCharacterAt (text : List ℕ) (byte : ℕ) (span : Extent) : Type 0 where
  pub start : IsNextBoundary text byte span.start
  pub end : IsNextBoundary text (span.start + 1) span.end

-- the spans of an error of a parse: the character at which a lexing error starts, or the lexeme of a parse error
abbrev pub AreErrorSpans : {S L B C : Type 0} → (C → Extent) → (B → Extent) → List ℕ → LexParseError S L B C → List Extent → Type 0
AreErrorSpans place span text (LexError e) spans = IsOne (IsCharacterAt text (place e).start) spans
AreErrorSpans place span text (ParseError e) spans = spans ≡ span e.lexeme ∷ []

-- the place of a fault with these spans: the first of them, moved to boundaries of the text; without any, the text's start
abbrev pub IsPlaceBy : (List Extent → Type 0) → List ℕ → Extent → Type 0
IsPlaceBy AreSpans text place = (spans : List Extent) × AreSpans spans × IsFirstPlace text spans place

-- the report has the spans of the error
abbrev pub ShowsError : {S L B C : Type 0} → (C → Extent) → (B → Extent) → List ℕ → LexParseError S L B C → Report → Type 0
ShowsError place span text error report = AreErrorSpans place span text error (label_spans report)

-- the error is at the place of its spans
abbrev pub IsErrorPlaced : {S L B C E : Type 0} → (C → Extent) → (B → Extent) → List ℕ → LexParseError S L B C → FaultPlace E → Type 0
IsErrorPlaced place span text error placed = IsPlaceBy (AreErrorSpans place span text error) text placed.place

-- the report has one label, at the character at a byte
abbrev pub ShowsCharacter : List ℕ → ℕ → Report → Type 0
ShowsCharacter text byte report = IsOne (IsCharacterAt text byte) (label_spans report)
