-- The result of a parse call, for an answer of its lexer.
use Rattle.std.specs.Prelude.{◌≡◌, ◌↔◌, ◌⊎◌, ℕ, List, [], ◌∷◌, map, Option, Some, None, Result, IfOk, IsOkAnd, IsErrOf, Vec}
use Rattle.lrpar_grammar.specs.Sentence.{LexemeFacts, IsFirstBadToken, IsFirstEarlyStart}
use Rattle.lrpar_grammar.specs.Tree.{Tree}
use Rattle.lrpar_parse.specs.Lexed.{first_error, lexemes_of}
use Rattle.lrpar_parse_run.specs.RepairAnswer.{IsRepairAnswer}
use Rattle.lrpar_parse_run.specs.RunAnswer.{HasValue, HasNoValue}
use Rattle.lrpar_parse_run.specs.Subject.{Subject}
use Rattle.lrpar_parse_errors.specs.declared.errors.LexParseError.{LexParseError}
use Rattle.lrpar_parse_errors.specs.declared.errors.LexParseError.TheVariants.{LexError}
use Rattle.lrpar_parse.specs.declared.fault.ParseFault.{ParseFault}
use Rattle.lrpar_parse.specs.declared.fault.ParseFault.TheVariants.{BadToken, StartsDecrease, Memory}

-- the facts of the lexemes before the first lexing error
abbrev pub lexeme_facts : {X E : Type 0} → (X → LexemeFacts) → List (Result X E) → List LexemeFacts
lexeme_facts facts lexed = map facts (lexemes_of lexed)

-- The result of a parse for an answer of its lexer. `errors_of` gives the errors of a result, and `IsValued` says which value it must have
-- for what a run consumed and for its reductions; if there is no run, `IsValued None []` holds.
pub record IsParse {T S L B C : Type 0} (about : Subject B) (errors_of : T → List (LexParseError S L B C)) (IsValued : Option (List B) → List ℕ → T → Type 0) (lexed : List (Result B C)) (result : Result T ParseFault) : Type 0 where
  -- errors: the first lexing error is the only error, and there is no value
  pub lexing_error : (error : C) → first_error lexed ≡ Some error → IsOkAnd result (λ answer. (errors_of answer ≡ LexError error ∷ []) × IsValued None [] answer)
  -- errors, value, productions and bound: if there is no lexing error, they are those of the run over the lexemes
  pub run : first_error lexed ≡ None → IfOk result (IsRepairAnswer about errors_of IsValued (lexemes_of lexed))
  -- faults: the fault of a lexeme is returned if and only if there is no lexing error and it is the first fault
  pub bad_token : (i : ℕ) → IsErrOf result (BadToken i) ↔ ((first_error lexed ≡ None) × IsFirstBadToken about.checked.grammar (lexeme_facts about.facts lexed) i)
  pub starts_decrease : (i : ℕ) → IsErrOf result (StartsDecrease i) ↔ ((first_error lexed ≡ None) × IsFirstEarlyStart about.checked.grammar (lexeme_facts about.facts lexed) i)

-- the lexer allows an answer, and the result is that of the parse for this answer; or an allocation failed; `lexes` says which answers the
-- lexer allows
abbrev pub Parses : {T S L B C : Type 0} → Subject B → (List (Result B C) → Type 0) → (T → List (LexParseError S L B C)) → (Option (List B) → List ℕ → T → Type 0) → Result T ParseFault → Type 0
Parses {B = B} {C = C} about lexes errors_of IsValued result =
    IsErrOf result Memory ⊎ ((lexed : List (Result B C)) × lexes lexed × IsParse about errors_of IsValued lexed result)

-- a parse that returns errors and a value; `Evaluates` says which values a tree may have
abbrev pub ParsesTo : {V S L B C Z : Type 0} → Subject B → (List (Result B C) → Type 0) → (Tree B → V → Type 0) → Result (Option V × Vec (LexParseError S L B C) Z) ParseFault → Type 0
ParsesTo about lexes Evaluates result =
    Parses about lexes (λ answer. answer.1.items) (HasValue (λ x. (about.facts x).token) about.checked.grammar Evaluates) result

-- a parse that returns errors alone
abbrev pub ParsesToErrors : {S L B C Z : Type 0} → Subject B → (List (Result B C) → Type 0) → Result (Vec (LexParseError S L B C) Z) ParseFault → Type 0
ParsesToErrors about lexes result = Parses about lexes (λ errors. errors.items) HasNoValue result
