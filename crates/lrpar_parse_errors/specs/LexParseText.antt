-- The text of a lexing error or a parse error.
use Rattle.std.specs.Prelude.{◌≡◌, ℕ, List, [], Option, codes}
use Rattle.lrpar_grammar_places.specs.Span.{Extent}
use Rattle.lrpar_grammar.specs.SpansFit.{IsPartOf}
use Rattle.lrpar_parse_errors.specs.ErrorText.{FailureFits, IsFailureText, byte_text, place_text, tokens_of}
use Rattle.lrpar_parse_errors.specs.declared.errors.LexParseError.{LexParseError}
use Rattle.lrpar_parse_errors.specs.declared.errors.LexParseError.TheVariants.{LexError, ParseError}

-- the text of an error
abbrev pub IsErrorText : {S L B C : Type 0} → (C → Extent) → (B → Extent) → (ℕ → Option (List ℕ) → Type 0) → List ℕ
    → LexParseError S L B C → List ℕ → Type 0
IsErrorText place span names input (LexError e) text = text ≡ place_text (codes "Lexing error") input (place e).start
IsErrorText place span names input (ParseError e) text = IsFailureText span names input e text

-- each part of the input that an error names starts and ends between two characters of the input
abbrev pub ErrorFits : {S L B C : Type 0} → (C → Extent) → (B → Extent) → List ℕ → LexParseError S L B C → Type 0
ErrorFits place span input (LexError e) = IsPartOf input (place e)
ErrorFits place span input (ParseError e) = FailureFits span input e

-- the tokens that an error's sequences would insert, in the order in which they are printed
abbrev pub error_tokens : {S L B C : Type 0} → (B → Extent) → LexParseError S L B C → List ℕ
error_tokens span (LexError e) = []
error_tokens span (ParseError e) = tokens_of span e.repairs

-- the text of an error that doesn't fit its input: it says at which byte the error starts
abbrev pub unfit_text : {S L B C : Type 0} → (C → Extent) → (B → Extent) → LexParseError S L B C → List ℕ
unfit_text place span (LexError e) = byte_text (codes "Lexing error") (place e).start
unfit_text place span (ParseError e) = byte_text (codes "Parsing error") (span e.lexeme).start
