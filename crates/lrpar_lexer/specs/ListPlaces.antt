-- Lists of lexemes and errors that fit a text.
use Rattle.std.specs.Prelude.{◌≡◌, ℕ, List, All, take, slice_get, Some, Result, Ok, Err}
use Rattle.lrpar_grammar_places.specs.Span.{Extent, IsPartOf}
use Rattle.lrpar_lexer.specs.declared.list_fault.ListFault.{ListFault}
use Rattle.lrpar_lexer.specs.declared.list_fault.ListFault.TheVariants.{Misplaced, Memory}
use Rattle.lrpar_lexer.specs.declared.token.Token.{Token}
use Rattle.lrpar_lexer.specs.declared.token.NoToken.{NoToken}

-- the place of a lexeme or an error
abbrev pub span_of : {S : Type 0} → Result (Token S) NoToken → Extent
span_of (Ok x) = x.span
span_of (Err e) = e.span

-- a lexeme or an error starts and ends in the text, each between two characters
abbrev pub FitsText : {S : Type 0} → List ℕ → Result (Token S) NoToken → Type 0
FitsText text answer = IsPartOf text (span_of answer)

-- answer i of the list doesn't fit the text, and those before it do
pub record IsFirstMisplaced {S : Type 0} (text : List ℕ) (answers : List (Result (Token S) NoToken)) (i : ℕ) : Type 0 where
  pub answer : Result (Token S) NoToken
  pub is : slice_get answers i ≡ Some answer
  pub misplaced : ¬ (FitsText text answer)
  pub before : All (FitsText text) (take i answers)

-- the fault is the first answer that doesn't fit the text; or it is `Memory`, and all fit
abbrev pub IsListFault : {S : Type 0} → List ℕ → List (Result (Token S) NoToken) → ListFault → Type 0
IsListFault text answers (Misplaced i) = IsFirstMisplaced text answers i
IsListFault text answers Memory = All (FitsText text) answers
