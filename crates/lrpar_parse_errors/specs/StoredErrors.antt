-- Lexing errors and parse errors as they are stored, and their texts. `place` gives the place of a lexing error, `parts` the parts of a
-- lexeme, and `names` says what is printed for a token.
use denote.Ref.{Bor}
use Rattle.std.specs.Prelude.{ℕ, IfOk, List, Option, Result, String, string_bytes}
use Rattle.lrpar_grammar.specs.Grammar.{Grammar}
use Rattle.lrpar_grammar_places.specs.Span.{Extent}
use Rattle.lrpar_grammar_places.specs.Strings.{HasText}
use Rattle.lrpar_grammar_places.specs.declared.span.TIdx.{TIdx}
use Rattle.lrpar_parse_lexemes.specs.Lexemes.{LexemeParts}
use Rattle.lrpar_parse_lexemes.specs.declared.pp_fault.PpFault.{PpFault}
use Rattle.lrpar_parse_errors.specs.LexParseText.{ErrorFits, IsErrorText, error_tokens, unfit_text}
use Rattle.lrpar_parse_errors.specs.Printed.{IsPpFault, IsPrintedName, printed_by}
use Rattle.lrpar_parse_errors.specs.declared.errors.LexParseError.{LexParseError}

module _ {S L X Y : Type 0} (place : Y → Extent) (parts : X → LexemeParts S) where
  -- each part of the input that the error names starts and ends between two characters of the input
  abbrev pub FitsInput : List ℕ → LexParseError S L X Y → Type 0
  FitsInput input e = ErrorFits place (λ x. (parts x).span) input e

  -- this is the error's text
  abbrev pub IsTextBy : {A : Type 0} → (ℕ → Option (List ℕ) → Type 0) → List ℕ → LexParseError S L X Y → String A → Type 0
  IsTextBy names input e = λ text. IsErrorText place (λ x. (parts x).span) names input e (string_bytes text)

  -- this is the error's text, with the names that a function answers
  abbrev pub IsTextWith : {A : Type 0} → (S → ℕ) → (TIdx S → Option (Bor (List ℕ)) → Type 0) → List ℕ → LexParseError S L X Y → String A → Type 0
  IsTextWith index answers input e = λ text. IsErrorText place (λ x. (parts x).span) (printed_by index answers) input e (string_bytes text)

  -- this is the error's text, with the names that a grammar prints
  abbrev pub IsTextOf : {A : Type 0} → Grammar → List ℕ → LexParseError S L X Y → String A → Type 0
  IsTextOf g input e = λ text. IsErrorText place (λ x. (parts x).span) (IsPrintedName g) input e (string_bytes text)

  -- if there is a result, it is the text that names the error's byte alone
  abbrev pub TellsByte : {A E : Type 0} → LexParseError S L X Y → Result (String A) E → Type 0
  TellsByte e result = IfOk result (HasText (unfit_text place (λ x. (parts x).span) e))

  -- if the error fits the input, the result is its text, with the names that a grammar prints
  abbrev pub GivesText : {A E : Type 0} → Grammar → List ℕ → LexParseError S L X Y → Result (String A) E → Type 0
  GivesText g input e result = FitsInput input e → IfOk result (IsTextOf g input e)

  -- if the error doesn't fit the input, the result is the text that names a byte alone
  abbrev pub GivesByte : {A E : Type 0} → List ℕ → LexParseError S L X Y → Result (String A) E → Type 0
  GivesByte input e result = ¬ (FitsInput input e) → TellsByte e result

module _ {S L X Y : Type 0} (index : S → ℕ) (parts : X → LexemeParts S) where
  -- the fault names the first token of the error's sequences for which nothing is printed, or is `Memory`
  abbrev pub IsFaultBy : (ℕ → Option (List ℕ) → Type 0) → LexParseError S L X Y → PpFault S → Type 0
  IsFaultBy names e = IsPpFault index names (error_tokens (λ x. (parts x).span) e)

  -- the fault names the first token of the error's sequences for which a function answers no name, or is `Memory`
  abbrev pub IsFaultWith : (TIdx S → Option (Bor (List ℕ)) → Type 0) → LexParseError S L X Y → PpFault S → Type 0
  IsFaultWith answers e = IsPpFault index (printed_by index answers) (error_tokens (λ x. (parts x).span) e)
